-- What a writer leaves in a lent room.
use Rattle.std.specs.Prelude.{◌≡◌, List, ℕ, ◌+◌, length}
use Rattle.std.proofs.lemmas.List.Edits.{sets}

-- The bytes are stored from an offset of the room on, as far as it goes, and the next offset is behind them.
unfoldable pub Written : List ℕ → List ℕ → ℕ → List ℕ → ℕ → Type 0
Written bytes before at after next = (after ≡ sets before at bytes) × (next ≡ at + length bytes)
