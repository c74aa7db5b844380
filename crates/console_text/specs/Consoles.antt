-- The console: a session on the record of a name in a materials file, over the kind of a name.
use Rattle.std.specs.Prelude.{◌≡◌, ℕ, ◌-◌, ◌<◌, ◌⊎◌, List, map, length, Some, None, codes, slice_index_or}
use Rattle.kinds.specs.declared.words.WordKind.{WordKind}
use Rattle.kinds.specs.declared.enclosures.EnclosedKind.{EnclosedKind}
use Rattle.kinds.specs.declared.bounds.BoundKind.{BoundKind}
use Rattle.kinds.specs.Words.{word_kind}
use Rattle.kinds.specs.Enclosures.{enclosed_kind}
use Rattle.kinds.specs.Bounds.{bound_kind}
use Rattle.materials.specs.Layout.{Material}
use Rattle.materials.specs.Records.{material}
use Rattle.materials.specs.Files.{parts, stands_for, look_up_refusal}
use Rattle.console_text.specs.Lines.{word_fields, enclosed_fields, bound_fields}
use Rattle.console_text.specs.Sessions.{Session}

-- the file is good, and its record of this name is this material
pub record StandsFor (file name : List ℕ) (item : Material) : Type 0 where
  pub accepted : look_up_refusal file name ≡ None
  pub number : ℕ
  pub stands : stands_for file name ≡ Some number
  pub within : number - 1 < length (parts file)
  pub is : item ≡ slice_index_or (map material (parts file)) (number - 1) item

-- the text of a session over the kind of a name: bare words, words with an enclosure, or bounds
abbrev pub OverKind : List ℕ → Material → List ℕ → List ℕ → Type 0
OverKind kind item input text =
    ((kind ≡ codes "word") × ((k : WordKind) × Session (λ _. word_kind) word_fields k kind item input text))
    ⊎ (((kind ≡ codes "enclosed") × ((k : EnclosedKind) × Session (λ _. enclosed_kind) enclosed_fields k kind item input text))
    ⊎ ((kind ≡ codes "bound") × ((k : BoundKind) × Session (λ _. bound_kind) bound_fields k kind item input text)))

-- the text of a session on the record of this name
abbrev pub ConsoleText : List ℕ → List ℕ → List ℕ → List ℕ → List ℕ → Type 0
ConsoleText file name kind input text = (item : Material) × StandsFor file name item × OverKind kind item input text
