-- What stands behind the front of a list, and items read with a default.
use Rattle.std.proofs.Common.{◌≡◌, ℕ, zero, suc, ◌<◌, Bool, List, [], ◌∷◌, ◌++◌, length, drop, get_or, refl, ap, ◌∙◌, arith}

drop_front : (v bits : List Bool) → drop (length v) (v ++ bits) ≡ bits
drop_front [] bits = refl
drop_front (x ∷ v) bits = drop_front v bits

-- the bits that an event put behind a trace
pub bits_behind : (b n v w bits : List Bool) → b ≡ v → n ≡ w → w ≡ v ++ bits → drop (length b) n ≡ bits
bits_behind b n v w bits old new more = ap (λ (l : List Bool). drop (length l) n) old ∙ (ap (drop (length v)) (new ∙ more) ∙ drop_front v bits)

pub same_item : {A : Type 0} (xs : List A) (n : ℕ) (d e : A) → n < length xs → get_or xs n d ≡ get_or xs n e
same_item [] n d e inside = absurd (omega (arith, inside))
same_item (x ∷ xs) zero d e inside = refl
same_item (x ∷ xs) (suc n) d e inside = same_item xs n d e (omega (arith, inside))
