-- The calls that lines ask for.
use Rattle.std.specs.Prelude.{◌≡◌, ℕ, Bool, true, false, ◌⊎◌, List, [], ◌∷◌, ◌++◌, length, ℤ, Some, None, vec_items, codes, Option}
use Rattle.wiring.specs.Lists.{Each₂}
use Rattle.replay.specs.declared.log.Call.{Call}
use Rattle.replay.specs.declared.log.Call.TheVariants.{Feed, Swap, Hush}
use Rattle.console_text.specs.Numbers.{Writes}
use Rattle.console_text.specs.Pieces.{pieces}

-- a line asks for a swap to these coefficients: `swap` alone for none, or `swap`, a space, and numbers with one space (32) between two of them
abbrev pub Swaps : List ℕ → List ℤ → Type 0
Swaps line cs = ((line ≡ codes "swap") × (cs ≡ [])) ⊎ ((rest : List ℕ) × (line ≡ codes "swap " ++ rest) × Each₂ Writes (pieces 32 rest) cs)

-- a line asks for this call of a channel with so many registers and nodes: `feed`, a space and a number, with a working row of as many places as
-- there are nodes; a swap; or `hush` alone
abbrev pub AsksCall : {V : Type 0} → ℕ → ℕ → List ℕ → Call V → Type 0
AsksCall registers nodes line (Feed r w u) = (r ≡ registers) × (length (vec_items w) ≡ nodes) × ((rest : List ℕ) × (line ≡ codes "feed " ++ rest) × Writes rest u)
AsksCall registers nodes line (Swap cs) = Swaps line (vec_items cs)
AsksCall registers nodes line (Hush r) = (r ≡ registers) × (line ≡ codes "hush")

-- the call that a line asks for, or none where it asks for no call
abbrev pub Asks : {V : Type 0} → ℕ → ℕ → List ℕ → Option (Call V) → Type 0
Asks registers nodes line (Some c) = AsksCall registers nodes line c
Asks {V} registers nodes line None = (c : Call V) → AsksCall registers nodes line c → ⊥

-- the lines in order: each is marked as read and asks for the next call, or is marked as unread and asks for none
pub data Reads {V : Type 0} (registers nodes : ℕ) : List (List ℕ) → List Bool → List (Call V) → Type 0 where
  no_lines : Reads registers nodes [] [] []
  a_call : {line : List ℕ} {lines : List (List ℕ)} {marks : List Bool} {c : Call V} {calls : List (Call V)} → Asks registers nodes line (Some c)
      → Reads registers nodes lines marks calls → Reads registers nodes (line ∷ lines) (true ∷ marks) (c ∷ calls)
  unread : {line : List ℕ} {lines : List (List ℕ)} {marks : List Bool} {calls : List (Call V)} → Asks {V = V} registers nodes line None
      → Reads registers nodes lines marks calls → Reads registers nodes (line ∷ lines) (false ∷ marks) calls
