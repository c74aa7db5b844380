-- The same of a list of records in memory. Assumes nothing.
use Rattle.std.specs.Prelude.{ℕ, ◌+◌, ◌*◌, List, [], ◌∷◌, length, vec_items, Option, nat_le}
use Rattle.std.specs.List.{flat_map}
use Rattle.materials.specs.declared.record.Record.{Record}
use Rattle.materials.specs.declared.refusal.RecordFault.{RecordFault}
use Rattle.materials.specs.declared.refusal.Refusal.{Refusal}
use Rattle.materials.specs.declared.refusal.Refusal.TheVariants.{RecordCount}
use Rattle.materials.specs.Layout.{meaning, encoded}
use Rattle.materials.specs.Refusals.{first, or_else}
use Rattle.materials.specs.Records.{material_fault}
use Rattle.materials.specs.Files.{faults_in}

-- the name of a record
abbrev pub called : Record → List ℕ
called r = vec_items r.name

-- its bytes
abbrev pub bytes_of : Record → List ℕ
bytes_of r = encoded (meaning r)

-- the first thing wrong with it
abbrev pub record_fault : Record → Option RecordFault
record_fault r = material_fault (meaning r)

-- the first thing wrong with a record of the list
abbrev pub list_fault : List Record → Option Refusal
list_fault rs = faults_in record_fault called [] 1 rs

-- why the list is no file, if it is none
abbrev pub list_refusal : List Record → Option Refusal
list_refusal rs = or_else (first ((nat_le (length rs) 512, RecordCount) ∷ [])) (list_fault rs)

-- the length of its file
abbrev pub list_length : List Record → ℕ
list_length rs = 2 + 6 * length rs + length (flat_map bytes_of rs)
