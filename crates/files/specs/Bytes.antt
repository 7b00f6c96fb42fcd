-- What bytes mean: a number is eight of them, the low byte first.
-- Assumes nothing: these are definitions.
use Rattle.std.specs.Prelude.{◌≡◌, ℕ, ◌+◌, ◌*◌, ◌/◌, ◌%◌, List, map, length, Some, None, vec_items, Option, slice_index}
use Rattle.std.specs.Global.{Vec}
use Rattle.std.specs.Simd.{first_chunks}

-- bytes that aren't there are 0
abbrev pub number_in : List ℕ → ℕ
number_in bs =
    slice_index bs 0
    + 256
    * (slice_index bs 1 + 256 * (slice_index bs 2 + 256 * (slice_index bs 3 + 256 * (slice_index bs 4 + 256 * (slice_index bs 5 + 256 * (slice_index bs 6 + 256 * slice_index bs 7))))))

-- eight bytes at a time; fewer than eight at the end are left out
abbrev pub numbers_in : List ℕ → List ℕ
numbers_in bytes = map number_in (first_chunks 8 (length bytes / 8) bytes)

-- what is read of bytes as numbers: all of them, or nothing if the last is not whole
abbrev pub Numbers : List ℕ → Option (Vec ℕ) → Type 0
Numbers bytes None = length bytes % 8 ≡ 0 → ⊥
Numbers bytes (Some v) = (length bytes % 8 ≡ 0) × (vec_items v ≡ numbers_in bytes)
