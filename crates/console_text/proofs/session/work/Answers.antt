use Rattle.std.proofs.Common.{map, vec_items, string_bytes, ap, ◌∙◌}
use Rattle.wiring.specs.Graphs.{graph_of}
use Rattle.materials.specs.Layout.{meaning}
use Rattle.console_text.proofs.Reading.{bytes}
use Rattle.console_text.proofs.Wholes.{entries_enough, session_whole}
use Rattle.console_text.proofs.session.work.Goals as goal

pub session_text-requires : goal.session_text-requires
session_text-requires g c =
    let filter = c.in_ok-filter.filter in
    let script = c.in_ok-script.script in
    entries_enough g.K.Kind.model c.args.kind c.setting-setting.result (graph_of filter.wiring) (vec_items filter.coefficients) c.in_ok-limits.limits
    c.len.result c.len-2.result (map bytes c.as_slice.result.now) (vec_items script.marks) c.as_slice-3.result.now (vec_items script.calls) c.as_slice-2.result.now (vec_items c.in_ok-log.log) c.as_slice-4.result.now
    c.in_ok-script.ensures c.as_slice-2.ensures.value c.in_ok-log.ensures c.as_slice-3.ensures.value c.as_slice-4.ensures.value

pub returns : goal.returns
returns g c =
    let m = meaning c.args.item.now in
    let filter = c.in_ok-filter.filter in
    let built = c.in_ok-filter.ensures in
    let letters = c.in_ok-choices.ensures in
    let script = c.in_ok-script.script in
    session_whole g.K.Kind.model g.K.Value.Shown.fields c.args.kind c.args.name.now m c.args.input.now (string_bytes c.in_ok-session_text.field-0) c.in_ok-choices.choices c.in_ok-limits.limits
    c.setting-setting.result (graph_of filter.wiring) (vec_items filter.coefficients) c.len.result c.len-2.result (map bytes c.as_slice.result.now) (vec_items script.marks) c.as_slice-3.result.now (vec_items script.calls) c.as_slice-2.result.now (vec_items c.in_ok-log.log) c.as_slice-4.result.now
    letters.1 letters.2 letters.3 c.setting-setting.ensures built.0 built.1
    (c.len.ensures ∙ filter.wiring.sources.ok.0) (c.len-2.ensures ∙ filter.wiring.nodes.ok.0) (ap (map bytes) c.as_slice.ensures.value ∙ c.in_ok-lines.ensures)
    c.in_ok-limits.ensures c.in_ok-script.ensures c.as_slice-2.ensures.value c.in_ok-log.ensures c.as_slice-3.ensures.value c.as_slice-4.ensures.value c.in_ok-session_text.ensures
