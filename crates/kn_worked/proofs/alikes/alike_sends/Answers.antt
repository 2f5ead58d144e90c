use Rattle.std.proofs.Common.{◌≡◌, true, false, [], ◌∷◌, ap, refl, arith}
use Rattle.std.specs.Prelude.{Contains}
use Rattle.kn_word.specs.Words.{one_if}
use Rattle.kn_model.specs.Conditions.{Read}
use Rattle.kn_model.specs.Packets.{Key}
use Rattle.kn_worked.proofs.OneHalf.{the_only}
use Rattle.kn_worked.proofs.alikes.alike_sends.Goals as goal

pub returns-clause-reads_more : goal.returns-clause-reads_more
returns-clause-reads_more c = λ h.
    let first : Read = record { node = 0; index = 0; width = 1 } in
    let second : Read = record { node = 0; index = 1; width = 1 } in
    let there : Contains (first ∷ []) second = h.guard.reads second (1, omega arith, refl) in
    let wrong : 0 ≡ 1 = ap (λ (r : Read). r.index) (the_only first second there) in
    absurd (omega (arith, wrong))

pub returns-clause-others : goal.returns-clause-others
returns-clause-others c = (
  λ h. let wrong : 3 ≡ 2 = ap (λ (k : Key). k.arrival) h.key in absurd (omega (arith, wrong)),
  (
    λ h. let wrong : 1 ≡ 0 = ap (λ (k : Key). k.from) h.key in absurd (omega (arith, wrong)),
    (
      λ h. let wrong : 1 ≡ 0 = ap (λ (k : Key). k.seq) h.key in absurd (omega (arith, wrong)),
      (
        λ h. let wrong : 1 ≡ 0 = ap (λ (k : Key). k.copy) h.key in absurd (omega (arith, wrong)),
        (
          λ h. let wrong : 2 ≡ 1 = h.to in absurd (omega (arith, wrong)),
          (
            λ h. let wrong : (true ∷ []) ≡ (false ∷ []) = h.bits in absurd cc,
            (
              λ h. let wrong : 6 ≡ 5 = h.payload.0.words [] in absurd (omega (arith, wrong)),
              (λ h. let wrong : 1 ≡ 0 = ap one_if (h.guard.holds []) in absurd (omega (arith, wrong)), tt),
            ),
          ),
        ),
      ),
    ),
  ),
)
