-- Texts without a comma.
use Rattle.std.specs.Prelude.{◌≢◌, ◌<◌, ℕ, List, length, slice_index_or}

abbrev pub HasNoComma : List ℕ → Type 0
HasNoComma text = (k : ℕ) → k < length text → slice_index_or text k 0 ≢ 44
