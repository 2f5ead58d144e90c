-- Words of 16 bits that are moved by places.
use Rattle.std.specs.Prelude.{ℕ, ◌-◌, ◌*◌, ◌/◌, ◌%◌, ◌^◌, Bool, false, if◌then◌else◌}
use Rattle.kn_blast.specs.declared.shifts.Way.{Way}
use Rattle.kn_blast.specs.declared.shifts.Way.TheVariants as ways

-- the bit that comes in: 0 from below, and a given one from above
abbrev pub comes_in : Way → Bool → Bool
comes_in ways.Left b = false
comes_in ways.Right b = b

-- a word that is moved by so many places, where this bit comes in from above
abbrev pub moved_word : Way → Bool → ℕ → ℕ → ℕ
moved_word ways.Left b places x = x * 2 ^ places % 65536
moved_word ways.Right b places x = if b then 65535 - (65535 - x) / 2 ^ places else x / 2 ^ places
