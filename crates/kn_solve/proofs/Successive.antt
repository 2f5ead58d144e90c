-- Further literals, one after another.
use Rattle.std.proofs.Common.{◌≡◌, ℕ, ◌+◌, ◌<◌, ◌≤◌, Bool, List, [], ◌∷◌, ◌++◌, length, take, drop, get_or, refl, sym, ap, subst, ◌∙◌, append_assoc}
use Rattle.std.specs.Prelude.{◌&&◌}
use Rattle.std.proofs.lemmas.List.{take_more, take_all, take-append-drop}
use Rattle.kn_term.specs.declared.node.Node.{Node}
use Rattle.kn_term.specs.declared.node.Literal.{Literal as Listed}
use Rattle.kn_cond.specs.Conditions.{Condition, that, holds, IsImpossible, StandsFor}
use Rattle.kn_cond.specs.Meanings.{condition_of}
use Rattle.kn_cond.specs.declared.standing.Standing.{Standing}
use Rattle.kn_cond.proofs.Kept.{condition_of-append, holds-append}

module _ (ns : List Node) (c more all none one : List Listed) (i : ℕ) (d : Listed) {l : Listed} (less : i < length more) (is : l ≡ get_or more i d) (so_far : all ≡ c ++ take i more) (empty : none ≡ []) (added : one ≡ none ++ l ∷ []) where
  single : one ≡ l ∷ []
  single = added ∙ ap (λ (ls : List Listed). ls ++ l ∷ []) empty

  -- with one literal more
  pub each_next : (new : List Listed) → new ≡ all ++ l ∷ [] → new ≡ c ++ take (i + 1) more
  each_next new e =
      e ∙ (ap (λ (ls : List Listed). ls ++ l ∷ []) so_far ∙ (append_assoc c (take i more) (l ∷ [])
      ∙ ap (λ (ls : List Listed). c ++ ls) (sym (take_more more i d less ∙ ap (λ (z : Listed). take i more ++ (z ∷ [])) (sym is)))))

  pub each_known : (budget : ℕ) (new : List Listed) (x : Standing) → new ≡ all ++ l ∷ [] → StandsFor budget (that (condition_of ns all ++ condition_of ns one)) x → StandsFor budget (that (condition_of ns new)) x
  each_known budget new x e h =
      subst (λ (d : Condition). StandsFor budget (that d) x) (sym (ap (condition_of ns) (e ∙ ap (λ (ls : List Listed). all ++ ls) (sym single)) ∙ condition_of-append ns all one)) h

  -- where no inputs meet it, none meet all
  pub each_never : IsImpossible (that (condition_of ns all ++ condition_of ns one)) → IsImpossible (that (condition_of ns c ++ condition_of ns more))
  each_never never a =
      let next = each_next (all ++ l ∷ []) refl in
      let front : condition_of ns all ++ condition_of ns one ≡ condition_of ns (c ++ take (i + 1) more) = sym (condition_of-append ns all one) ∙ ap (condition_of ns) (ap (λ (ls : List Listed). all ++ ls) single ∙ next) in
      let whole : condition_of ns c ++ condition_of ns more ≡ condition_of ns (c ++ take (i + 1) more) ++ condition_of ns (drop (i + 1) more) =
      sym (condition_of-append ns c more)
      ∙ (ap (λ (ls : List Listed). condition_of ns (c ++ ls)) (sym (take-append-drop (i + 1) more))
      ∙ (ap (condition_of ns) (sym (append_assoc c (take (i + 1) more) (drop (i + 1) more))) ∙ condition_of-append ns (c ++ take (i + 1) more) (drop (i + 1) more))) in
      ap (holds a) whole
      ∙ (holds-append a (condition_of ns (c ++ take (i + 1) more)) (condition_of ns (drop (i + 1) more))
      ∙ ap (λ (b : Bool). b && holds a (condition_of ns (drop (i + 1) more))) (ap (holds a) (sym front) ∙ never a))

-- once all were asked
pub each_all : (ns : List Node) (budget : ℕ) (c more all : List Listed) (i : ℕ) (x : Standing) → length more ≤ i → all ≡ c ++ take i more → StandsFor budget (that (condition_of ns all)) x → StandsFor budget (that (condition_of ns c ++ condition_of ns more)) x
each_all ns budget c more all i x past so_far h =
    subst (λ (d : Condition). StandsFor budget (that d) x) (ap (condition_of ns) (so_far ∙ ap (λ (ls : List Listed). c ++ ls) (take_all i more past)) ∙ condition_of-append ns c more) h
