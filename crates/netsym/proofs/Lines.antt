-- A text that is written line by line.
use Rattle.std.proofs.Common.{ℕ, List, ◌++◌, take, drop, sym, ap, ◌∙◌, append_assoc, Option}
use Rattle.std.proofs.lemmas.List.{take-append-drop}
use Rattle.kn_io.proofs.Known.{Appends-then}
use Rattle.kn_io.specs.Writing.{TakesFront}

-- a front of the first part of the rest is a front of the text
pub front_on : (a b c : Option (List ℕ)) (text rest : List ℕ) (n : ℕ) (left : List ℕ) → TakesFront a b text rest → TakesFront b c (take n rest) left → TakesFront a c text (left ++ drop n rest)
front_on a b c text rest n left t u = record {
  front = t.front ++ u.front;
  whole =
      t.whole
      ∙ (ap (λ (s : List ℕ). t.front ++ s) (sym (take-append-drop n rest) ∙ (ap (λ (s : List ℕ). s ++ drop n rest) u.whole ∙ append_assoc u.front left (drop n rest)))
      ∙ sym (append_assoc t.front u.front (left ++ drop n rest)));
  taken = Appends-then a b c t.front u.front t.taken u.taken;
}
