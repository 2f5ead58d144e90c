-- What the rows of a table tell.
use Rattle.std.proofs.Common.{◌≡◌, ℕ, ◌<◌, ◌≤◌, List, length, get_or, take, suc, refl, ap, subst, ◌∙◌, arith}
use Rattle.std.proofs.lemmas.Option.{slice_get-get_or}
use Rattle.kn_built.specs.Built.{built}
use Rattle.kn_built.proofs.BuiltLaws.{built_at-row, built_at-before}
use Rattle.kn_packet.specs.Histories.{Done, followed}
use Rattle.kn_dstate.specs.declared.row.Entry.{Entry}
use Rattle.kn_dstate.specs.declared.row.Entry.TheVariants.{Ran, Got}
use Rattle.kn_dstate.specs.declared.row.Past.{Past}
use Rattle.kn_dstate.specs.declared.row.Past.TheVariants.{Nothing, After}
use Rattle.kn_dstate.specs.declared.row.Row.{Row}
use Rattle.kn_dstate.specs.Histories.{Told, history_in, told, told_by, entry_history, past_history, entry_count, NamesBelow, IsPast, IsTable}
use Rattle.kn_dstate.proofs.Orders.{count-followed, count-entry}

abbrev none : Told
none = record { node = 0; history = Done }

-- only the histories below a place count
pub entry-below : (ts us : List Told) (place : ℕ) (x : Entry) → NamesBelow place x → ((k : ℕ) → k < place → history_in ts k ≡ history_in us k) → entry_history ts x ≡ entry_history us x
entry-below ts us place (Ran e b) names same = refl
entry-below ts us place (Got s c) names same = rw (same s.history names) refl

past-below : (rows : List Row) (ts us : List Told) (n place : ℕ) (p : Past) → IsPast rows n place p → ((k : ℕ) → k < place → history_in ts k ≡ history_in us k) → past_history ts p ≡ past_history us p
past-below rows ts us n place Nothing is same = refl
past-below rows ts us n place (After before x) is same = rw (same before is.0, entry-below ts us place x is.1 same) refl

-- what a row tells, out of what all rows tell
pub history-row : (rows : List Row) (place : ℕ) (d : Row) → IsTable rows → place < length rows → history_in (told rows) place ≡ past_history (told rows) (get_or rows place d).past
history-row rows place d table h =
    let row = get_or rows place d in
    let step : history_in (told rows) place ≡ past_history (built told_by (take place rows)) row.past = ap (λ (t : Told). t.history) (built_at-row told_by none rows place d h) in
    step ∙ past-below rows (built told_by (take place rows)) (told rows) row.node place row.past (table.past place row (slice_get-get_or rows place d h))
    (λ k low. ap (λ (t : Told). t.history) (built_at-before told_by none rows place k low (omega arith)))

-- a row that goes on from an earlier one
pub record GoesOn (rows : List Row) (place before : ℕ) (x : Entry) : Type 0 where
  pub below : before < place
  pub names : NamesBelow place x
  pub history : history_in (told rows) place ≡ followed (history_in (told rows) before) (entry_history (told rows) x)
  pub count : entry_count (history_in (told rows) place) ≡ suc (entry_count (history_in (told rows) before))

pub goes_on : (rows : List Row) (place : ℕ) (d : Row) (before : ℕ) (x : Entry) → IsTable rows → place < length rows → (get_or rows place d).past ≡ After before x → GoesOn rows place before x
goes_on rows place d before x table h past =
    let row = get_or rows place d in
    let found : IsPast rows row.node place (After before x) = subst (IsPast rows row.node place) past (table.past place row (slice_get-get_or rows place d h)) in
    let tells : history_in (told rows) place ≡ followed (history_in (told rows) before) (entry_history (told rows) x) = history-row rows place d table h ∙ ap (past_history (told rows)) past in
    record {
      below = found.0;
      names = found.1;
      history = tells;
      count = omega (arith, ap entry_count tells, count-followed (history_in (told rows) before) (entry_history (told rows) x), count-entry (told rows) x);
    }

pub starts : (rows : List Row) (place : ℕ) (d : Row) → IsTable rows → place < length rows → (get_or rows place d).past ≡ Nothing → history_in (told rows) place ≡ Done
starts rows place d table h past = history-row rows place d table h ∙ ap (past_history (told rows)) past

pub NamesBelow-weaker : (place more : ℕ) (x : Entry) → place ≤ more → NamesBelow place x → NamesBelow more x
NamesBelow-weaker place more (Ran e b) h names = tt
NamesBelow-weaker place more (Got s c) h names = omega arith
