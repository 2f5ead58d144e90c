-- What operators give with a word that is known on one side, and with one operand on both.
use Rattle.std.proofs.Common.{◌≡◌, ℕ, ◌<◌, ◌%◌, min, max, refl, sym, arith}
use Rattle.std.specs.Prelude.{Bool, true, false, nat_eq, if◌then◌else◌}
use Rattle.std.proofs.lemmas.Bool.{eqb-true}
use Rattle.std.proofs.Math.Nat.{mod_self}
use Rattle.kn_word.specs.declared.Op.TheVariants as ops
use Rattle.kn_word.specs.Words.{val}
use Rattle.kn_simplify.proofs.Digits.{zero_kept, zero_kept_left, zero_wins, zero_wins_left, same_kept, last_kept, last_kept_left}

pub zero_and : (y : ℕ) → 0 ≡ val ops.And 0 y
zero_and y = sym (zero_wins_left min (λ d h. omega arith) 16 y)

pub and_zero : (x : ℕ) → 0 ≡ val ops.And x 0
and_zero x = sym (zero_wins min (λ d h. omega arith) 16 x)

pub ones_and : (y : ℕ) → y < 65536 → y ≡ val ops.And 65535 y
ones_and y h = sym (last_kept_left min (λ d h. omega arith) y h)

pub and_ones : (x : ℕ) → x < 65536 → x ≡ val ops.And x 65535
and_ones x h = sym (last_kept min (λ d h. omega arith) x h)

pub and_same : (x : ℕ) → x < 65536 → x ≡ val ops.And x x
and_same x h = sym (same_kept min (λ d h. omega arith) 16 x h)

pub zero_or : (y : ℕ) → y < 65536 → y ≡ val ops.Or 0 y
zero_or y h = sym (zero_kept_left max (λ d h. omega arith) 16 y h)

pub or_zero : (x : ℕ) → x < 65536 → x ≡ val ops.Or x 0
or_zero x h = sym (zero_kept max (λ d h. omega arith) 16 x h)

pub or_same : (x : ℕ) → x < 65536 → x ≡ val ops.Or x x
or_same x h = sym (same_kept max (λ d h. omega arith) 16 x h)

pub urem_same : (x : ℕ) → 0 ≡ val ops.Urem x x
urem_same x = either (nat_eq x 0) refl where
  either : (b : Bool) → nat_eq x 0 ≡ b → 0 ≡ (if b then x else x % x)
  either true e = sym (eqb-true x 0 e)
  either false e = sym (mod_self x)
