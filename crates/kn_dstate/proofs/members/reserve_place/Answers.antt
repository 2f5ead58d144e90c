use Rattle.std.proofs.Common.{◌≡◌, ℕ, List, Vec, Global, map, true, ap, subst, ◌∙◌, OnOk}
use Rattle.kn_dstate.specs.declared.number.StateNo.{StateNo}
use Rattle.kn_dstate.specs.Places.{PlaceView}
use Rattle.kn_dstate.specs.Graphs.{at}
use Rattle.kn_dstate.specs.Members.{is_among, HasRoom}
use Rattle.kn_dstate.proofs.members.reserve_place.Goals as goal

numbers : Vec StateNo Global → List ℕ
numbers v = map (λ s. s.0) v.items

pub returns-clause-room : goal.returns-clause-room
unfolding numbers
returns-clause-room c =
    let is : map numbers c.deref.result.now ≡ c.args.place.now.columns = ap (map numbers) c.deref.ensures.value ∙ ap (λ (p : PlaceView). p.columns) c.place.view_is in
    subst (λ (cs : List (List ℕ)). OnOk c.reserve_columns.result ((k : ℕ) → is_among k cs ≡ true → HasRoom c.args.more (at c.reserve_columns.new.states.slots k))) is c.reserve_columns.ensures.room
