use Rattle.std.proofs.Common.{◌≡◌, drop, map, string_bytes, subst, sym, ◌∙◌}
use Rattle.std.specs.Vec.Iter.{into_iter_items}
use Rattle.netsym.specs.Runs.{IsOfFile}
use Rattle.netsym_main.proofs.exit_status.Goals as goal

pub returns-clause-unread : goal.returns-clause-unread
returns-clause-unread g c =
    let same : drop 1 (into_iter_items c.in-Ok.args) ≡ c.deref.result.now = sym (c.deref.ensures.value ∙ c.in-Ok-texts_after_name.ensures) in
    rw c.in-Ok.is (λ none. c.called.ensures.unread (subst (λ texts. IsOfFile (map string_bytes texts) → ⊥) same none))
