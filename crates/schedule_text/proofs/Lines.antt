-- The lines of a schedule, one after another. Assumes nothing.
use Rattle.std.proofs.Common.{◌≡◌, ℕ, ◌+◌, ◌<◌, List, [], ◌∷◌, ◌++◌, map, length, get_or, take, None, sym, refl, ap, ◌∙◌, subst, append_assoc, append-nil}
use Rattle.std.specs.List.{AllByRecursion}
use Rattle.std.proofs.lemmas.List.{map_more}
use Rattle.wiring.proofs.Places.{each₂_push}
use Rattle.wiring.specs.Lists.{Each₂, none₂}
use Rattle.materials.specs.declared.record.Record.{Record}
use Rattle.materials.specs.Layout.{meaning}
use Rattle.materials.specs.Records.{material_fault}
use Rattle.materials.specs.Lists.{record_fault}
use Rattle.materials.specs.Files.{materials_fault}
use Rattle.materials.specs.Laws.{Good}
use Rattle.materials.proofs.Rows.{or_else_none}
use Rattle.materials.proofs.Turns.{all_sound}
use Rattle.schedule_text.specs.declared.outcome.Outcome.{Outcome}
use Rattle.schedule_text.specs.Outcomes.{OutcomeOf}
use Rattle.schedule_text.specs.Lines.{line}
use Rattle.schedule_text.specs.Schedules.{LineOf, joined_lines, LinesOf}

joined_push : (ls : List (List ℕ)) (l : List ℕ) → joined_lines (ls ++ l ∷ []) ≡ joined_lines ls ++ l
joined_push [] l = append-nil l
joined_push (k ∷ ls) l = ap (λ r. k ++ r) (joined_push ls l) ∙ sym (append_assoc k (joined_lines ls) l)

-- no line yet
pub lines_none : (text : List ℕ) → LinesOf [] text text
lines_none text = ([], none₂, sym (append-nil text))

-- one line more
pub lines_more : (rs : List Record) (i : ℕ) (x : Record) (before mid after : List ℕ) (o : Outcome) → i < length rs → x ≡ get_or rs i x
    → LinesOf (map meaning (take i rs)) before mid → OutcomeOf (meaning x) o → after ≡ mid ++ line (meaning x).name o → LinesOf (map meaning (take (i + 1) rs)) before after
lines_more rs i x before mid after o h is inv told e =
    let l = line (meaning x).name o in
    let ls = inv.0 in
    let own : LineOf (meaning x) l = (o, told, refl) in
    let ms : map meaning (take i rs) ++ meaning x ∷ [] ≡ map meaning (take (i + 1) rs) = ap (λ y. map meaning (take i rs) ++ meaning y ∷ []) is ∙ sym (map_more meaning rs i x h) in (
      ls ++ l ∷ [],
      subst (λ us. Each₂ LineOf us (ls ++ l ∷ [])) ms (each₂_push (meaning x) l inv.1 own),
      e ∙ (ap (λ t. t ++ l) inv.2 ∙ (append_assoc before (joined_lines ls) l ∙ ap (λ t. before ++ t) (sym (joined_push ls l)))),
    )

all_unmap : {X Y : Type 0} (f : X → Y) (P : Y → Type 0) (xs : List X) → AllByRecursion P (map f xs) → AllByRecursion (λ x. P (f x)) xs
all_unmap f P [] h = tt
all_unmap f P (x ∷ xs) h = (h.0, all_unmap f P xs h.1)

-- the records of good materials have no fault
pub good_records : (rs : List Record) → Good (map meaning rs) → AllByRecursion (λ r. record_fault r ≡ None) rs
good_records rs g =
    let h = (or_else_none _ (materials_fault [] 1 (map meaning rs)) g).1 in
    all_unmap meaning (λ m. material_fault m ≡ None) rs (all_sound material_fault (λ m. m.name) [] 1 (map meaning rs) h)
