use Rattle.std.proofs.Common.{rules, ◌≡◌, ℕ, List, ap, refl, ◌∙◌}
use Rattle.std.proofs.lemmas.Fn.{filter_same}
use Rattle.kn_dstate.specs.Graphs.{KnownView, Held}
use Rattle.kn_dstate.specs.Places.{others}
use Rattle.kn_dstate.specs.Members.{forgot}
use Rattle.kn_dstate.proofs.known.Known.forget.Goals as goal

held : KnownView → List ℕ → ℕ → Held
held known dstates capacity = record { known = known; dstates = dstates; capacity = capacity }

parts : (k : KnownView) (ds es : List ℕ) (m n : ℕ) → ds ≡ es → m ≡ n → held k ds m ≡ held k es n
parts k ds es m n e f = rw (e, f) refl

pub returns : goal.returns
unfolding held
returns c =
    let left : c.retain.new.self.items ≡ others c.args.d c.self.inside.dstates.items = filter_same _ _ _ (λ x b f' k. search rules) _ _ c.retain.ensures.filtered in
    parts (record { node = c.self.inside.node; history = c.self.inside.history; pinned = c.self.inside.pinned }) _ _ _ _ left c.retain.ensures.capacity
    ∙ ap (λ (x : Held). forgot c.args.d x) c.self.view_is
