use Rattle.std.proofs.Common.{Bool, true, false, length, get_or, subst, rules, arith}
use Rattle.std.proofs.lemmas.List.{length_push}
use Rattle.sheet.specs.Searching.{none, program_graph}
use Rattle.sheet.proofs.Places.{below_more}
use Rattle.sheet.proofs.Compared.{source_turn}
use Rattle.sheet.proofs.rounds.Rounds.some_source.Goals as goal

pub offset_bounds-rows-source : goal.offset_bounds-rows-source
offset_bounds-rows-source g c =
    let p = c.args.self.now.program in
    let t = source_turn p c.args.self.now.room c.args.rows.now.registers c.args.rows.now.working (search rules) c.loop-source.yielded c.into_iter-source-iterator.result c.loop-source.source-iterator c.next.new.self c.next.result
    (search rules) (search rules) c.loop-source.yielded_by (c.in-Some.source, c.in-Some.entry) c.in-Some.is c.next.ensures.steps in
    let there = t.1 in search rules

pub listed : goal.listed
listed g c =
    let p = c.args.self.now.program in
    let t = source_turn p c.args.self.now.room c.args.rows.now.registers c.args.rows.now.working (search rules) c.loop-source.yielded c.into_iter-source-iterator.result c.loop-source.source-iterator c.next.new.self c.next.result
    (search rules) (search rules) c.loop-source.yielded_by (c.in-Some.source, c.in-Some.entry) c.in-Some.is c.next.ensures.steps in
    t.1

pub bounds-rows-source : goal.bounds-rows-source
bounds-rows-source g c =
    let p = c.args.self.now.program in
    let t = source_turn p c.args.self.now.room c.args.rows.now.registers c.args.rows.now.working (search rules) c.loop-source.yielded c.into_iter-source-iterator.result c.loop-source.source-iterator c.next.new.self c.next.result
    (search rules) (search rules) c.loop-source.yielded_by (c.in-Some.source, c.in-Some.entry) c.in-Some.is c.next.ensures.steps in
    let there = t.1 in search rules

pub returns-then-test : goal.returns-then-test
returns-then-test g c =
    let p = c.args.self.now.program in
    let t = source_turn p c.args.self.now.room c.args.rows.now.registers c.args.rows.now.working (search rules) c.loop-source.yielded c.into_iter-source-iterator.result c.loop-source.source-iterator c.next.new.self c.next.result
    (search rules) (search rules) c.loop-source.yielded_by (c.in-Some.source, c.in-Some.entry) c.in-Some.is c.next.ensures.steps in
    let at = λ (b : Bool) (h : goal.F-post g c.args.test (get_or c.args.rows.now.working c.in-Some.source.now c.index-rows-source.result) c.in-Some.entry.now b).
    subst (λ e. goal.F-post g c.args.test (get_or c.args.rows.now.working (get_or (program_graph p).sources (length c.loop-source.yielded) 0) none) e b) t.3 (subst (λ v. goal.F-post g c.args.test v c.in-Some.entry.now b) (t.2 _) h) in
    (length c.loop-source.yielded, t.0, at true c.if-test.ensures)

pub loop-source-preserved : goal.loop-source-preserved
loop-source-preserved g c =
    let p = c.args.self.now.program in
    let t = source_turn p c.args.self.now.room c.args.rows.now.registers c.args.rows.now.working (search rules) c.loop-source.yielded c.into_iter-source-iterator.result c.loop-source.source-iterator c.next.new.self c.next.result
    (search rules) (search rules) c.loop-source.yielded_by (c.in-Some.source, c.in-Some.entry) c.in-Some.is c.next.ensures.steps in
    let at = λ (b : Bool) (h : goal.F-post g c.args.test (get_or c.args.rows.now.working c.in-Some.source.now c.index-rows-source.result) c.in-Some.entry.now b).
    subst (λ e. goal.F-post g c.args.test (get_or c.args.rows.now.working (get_or (program_graph p).sources (length c.loop-source.yielded) 0) none) e b) t.3 (subst (λ v. goal.F-post g c.args.test v c.in-Some.entry.now b) (t.2 _) h) in
    λ k h. let long = length_push c.loop-source.yielded (c.in-Some.source, c.in-Some.entry) in
    below_more (λ k. goal.F-post g c.args.test (get_or c.args.rows.now.working (get_or (program_graph p).sources k 0) none) (get_or c.args.rows.now.registers k none) false) (length c.loop-source.yielded) c.loop-source.invariant (at false c.if-test.ensures) k (omega arith)
