use Rattle.std.proofs.Common.{◌≡◌, ℕ, List, Vec, Global, map, ap, sym, ◌∙◌}
use Rattle.kn_dstate.specs.declared.number.StateNo.{StateNo}
use Rattle.kn_dstate.specs.Places.{PlaceView}
use Rattle.kn_dstate.specs.Members.{is_among}
use Rattle.kn_dstate.proofs.members.note_place.Goals as goal

numbers : Vec StateNo Global → List ℕ
numbers v = map (λ s. s.0) v.items

pub note_columns-requires : goal.note_columns-requires
unfolding numbers
note_columns-requires c = λ k e.
    let is : map numbers c.deref.result.now ≡ c.args.place.now.columns = ap (map numbers) c.deref.ensures.value ∙ ap (λ (p : PlaceView). p.columns) c.place.view_is in
    c.requires k (ap (is_among k) (sym is) ∙ e)
