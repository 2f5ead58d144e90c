-- The ticks are no later than the last one.
use Rattle.std.proofs.Common.{◌≡◌, ◌≤◌, ℕ, ℤ, List, subst, codes, Vec, map, Option, Some, option_map, sym, ap, ◌∙◌}
use Rattle.std.specs.Prelude.{min}
use Rattle.std.specs.List.{AllByRecursion}
use Rattle.std.proofs.lemmas.Result.{IfOk-weaker}
use Rattle.toml.specs.Data.{Data, as_array, get_member}
use Rattle.toml.specs.View.{view, table_view}
use Rattle.kn_netfile.specs.Keys.{tick_of, numbers_in}
use Rattle.kn_netfile.specs.Tables.{reboots_at, ticks_or_none}
use Rattle.kn_netfile.proofs.Walks.{ticks_are}
use Rattle.kn_netfile.proofs.building.reboots_of.Goals as goal

kept : (d : Data) (o : Option Data) (ns : List ℤ) (ts : List ℕ) → o ≡ Some d → numbers_in (as_array d) ≡ Some ns → AllByRecursion (λ t. t ≤ 4095) (reboots_at o) → ts ≡ map (λ n. min (tick_of n) 4095) ns → ts ≡ reboots_at o
kept d o ns ts is_some is_numbers all is =
    let found : reboots_at o ≡ map tick_of ns = ap reboots_at is_some ∙ ap ticks_or_none is_numbers in
    is ∙ ticks_are ns (subst (AllByRecursion (λ t. t ≤ 4095)) found all) ∙ sym found

numbers_are : {Z : Type 0} (o : Option (Vec ℤ Z)) (v : Vec ℤ Z) (found : Option (List ℤ)) → option_map (λ (w : Vec ℤ Z). w.items) o ≡ found → o ≡ Some v → found ≡ Some v.items
numbers_are o v found e is = sym e ∙ ap (option_map (λ w. w.items)) is

pub returns-in-Some-2 : goal.returns-in-Some-2
returns-in-Some-2 c = IfOk-weaker c.ticks_of.result _ _ (λ v is. kept (view c.in-Some.value.now) (get_member (codes "reboot") (table_view c.args.table.now)) c.deref.result.now v.items (sym c.in-Some.ensures) (numbers_are _ _ _ c.in_ok-numbers_in.ensures c.in-Some-2.is ∙ ap (λ (ns : List ℤ). Some ns) (sym c.deref.ensures.value)) c.requires is) c.ticks_of.ensures
