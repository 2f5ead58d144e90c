-- A table of histories that grows at its end.
use Rattle.std.proofs.Common.{◌≡◌, ℕ, zero, suc, ◌+◌, ◌<◌, ◌≤◌, List, [], ◌∷◌, ◌++◌, length, refl, ap, subst, sym, ◌∙◌, arith, Some, inl, inr, length-append, ◌⊎◌}
use Rattle.std.specs.Prelude.{slice_get}
use Rattle.std.proofs.lemmas.Option.{slice_get-get_or, slice_get_within, get_or_from_slice_get}
use Rattle.std.proofs.lemmas.List.{get_or_push, get_or_append_left}
use Rattle.kn_built.specs.Built.{Extends}
use Rattle.kn_built.proofs.BuiltLaws.{built-snoc, length-built, extends-same, extends-twice, length-extends}
use Rattle.kn_packet.specs.Histories.{History, Done, followed}
use Rattle.kn_dstate.specs.declared.row.Entry.{Entry}
use Rattle.kn_dstate.specs.declared.row.Past.{Past}
use Rattle.kn_dstate.specs.declared.row.Past.TheVariants.{Nothing, After}
use Rattle.kn_dstate.specs.declared.row.Row.{Row}
use Rattle.kn_dstate.specs.Histories.{Told, history_in, told, told_by, entry_history, entries_history, past_history, entry_count, NamesBelow, AllNameBelow, IsHistoryOf, IsPast, IsTable}
use Rattle.kn_dstate.proofs.Orders.{count-followed, count-entry, followed-assoc, followed-none}
use Rattle.kn_dstate.proofs.Rows.{entry-below}

none : Told
none = record { node = 0; history = Done }

pub get_left : {A : Type 0} (xs ys : List A) (k : ℕ) (x : A) → slice_get xs k ≡ Some x → slice_get (xs ++ ys) k ≡ Some x
get_left xs ys k x e =
    let low = slice_get_within xs k x e in
    slice_get-get_or (xs ++ ys) k x (omega (arith, length-append xs ys)) ∙ ap Some (get_or_append_left xs ys x k low ∙ get_or_from_slice_get xs k x x e)

pub get_last : {A : Type 0} (xs : List A) (y : A) (k : ℕ) → k ≡ length xs → slice_get (xs ++ y ∷ []) k ≡ Some y
get_last xs y k e = slice_get-get_or (xs ++ y ∷ []) k y (omega (arith, length-append xs (y ∷ []))) ∙ ap Some (get_or_push xs y y k (sym e))

-- what stands in a list with one more item is of the list, or the item
pub get_split : {A : Type 0} (xs : List A) (y : A) (k : ℕ) (z : A) → slice_get (xs ++ y ∷ []) k ≡ Some z → (slice_get xs k ≡ Some z) ⊎ ((k ≡ length xs) × (z ≡ y))
get_split [] y zero z e = inr (refl, cc)
get_split [] y (suc k) z e = absurd cc
get_split (x ∷ xs) y zero z e = inl e
get_split (x ∷ xs) y (suc k) z e = elim (get_split xs y k z e) [ inl h ↦ inl h | inr h ↦ inr (omega (arith, h.0), h.1) ]

pub IsHistoryOf-grown : (ts us : List Told) (n k : ℕ) → Extends ts us → IsHistoryOf ts n k → IsHistoryOf us n k
IsHistoryOf-grown ts us n k more is = (is.0, subst (λ (l : List Told). slice_get l k ≡ Some (record { node = n; history = is.0 })) (sym more.1) (get_left ts more.0 k (record { node = n; history = is.0 }) is.1))

pub history_in-grown : (ts us : List Told) (k : ℕ) → Extends ts us → k < length ts → history_in us k ≡ history_in ts k
history_in-grown ts us k more low = ap (λ (l : List Told). history_in l k) more.1 ∙ ap (λ (t : Told). t.history) (get_or_append_left ts more.0 (record { node = 0; history = Done }) k low)

pub history_in-found : (ts : List Told) (k : ℕ) (t : Told) → slice_get ts k ≡ Some t → history_in ts k ≡ t.history
history_in-found ts k t e = ap (λ (x : Told). x.history) (get_or_from_slice_get ts k t (record { node = 0; history = Done }) e)

IsPast-grown : (rows new : List Row) (n place : ℕ) (p : Past) → Extends (told rows) (told new) → IsPast rows n place p → IsPast new n place p
IsPast-grown rows new n place Nothing more is = tt
IsPast-grown rows new n place (After before x) more is = (is.0, is.1, IsHistoryOf-grown (told rows) (told new) n before more is.2)

-- a table with one more row
pub record Pushed (rows new : List Row) (place : ℕ) (t : Told) : Type 0 where
  pub table : IsTable new
  pub grows : Extends (told rows) (told new)
  pub tells : slice_get (told new) place ≡ Some t

pub pushed : (rows new : List Row) (r : Row) (place : ℕ) → IsTable rows → IsPast rows r.node (length rows) r.past → r.count ≡ entry_count (past_history (told rows) r.past) → r.count ≤ length rows → new ≡ rows ++ r ∷ [] → place ≡ length rows
    → Pushed rows new place (told_by (told rows) r)
pushed rows new r place table past count few is end =
    let last = told_by (told rows) r in
    let more : told new ≡ told rows ++ last ∷ [] = ap told is ∙ built-snoc told_by rows r in
    let grows : Extends (told rows) (told new) = (last ∷ [], more) in
    let size : length (told rows) ≡ length rows = length-built told_by rows in
    let tells : (k : ℕ) → k ≡ length rows → slice_get (told new) k ≡ Some last = λ k e. subst (λ (l : List Told). slice_get l k ≡ Some last) (sym more) (get_last (told rows) last k (e ∙ sym size)) in
    let split : (k : ℕ) (x : Row) → slice_get new k ≡ Some x → (slice_get rows k ≡ Some x) ⊎ ((k ≡ length rows) × (x ≡ r)) = λ k x e. get_split rows r k x (subst (λ (l : List Row). slice_get l k ≡ Some x) is e) in
    let kept : (k : ℕ) (x : Row) → slice_get rows k ≡ Some x → history_in (told new) k ≡ history_in (told rows) k = λ k x h. let low = slice_get_within rows k x h in history_in-grown (told rows) (told new) k grows (omega (arith, low, size)) in
    let last_past : (k : ℕ) (x : Row) → (k ≡ length rows) × (x ≡ r) → IsPast new x.node k x.past = λ k x h.
    subst (λ (y : Row). IsPast new y.node k y.past) (sym h.1) (subst (λ (j : ℕ). IsPast new r.node j r.past) (sym h.0) (IsPast-grown rows new r.node (length rows) r.past grows past)) in
    let last_count : (k : ℕ) (x : Row) → (k ≡ length rows) × (x ≡ r) → x.count ≡ entry_count (history_in (told new) k) = λ k x h.
    ap (λ (y : Row). y.count) h.1 ∙ (count ∙ ap entry_count (sym (history_in-found (told new) k last (tells k h.0)))) in
    let last_few : (k : ℕ) (x : Row) → (k ≡ length rows) × (x ≡ r) → x.count ≤ k = λ k x h. omega (arith, ap (λ (y : Row). y.count) h.1, h.0, few) in
    record {
      table = record {
        past = λ k x e. elim (split k x e) [ inl h ↦ IsPast-grown rows new x.node k x.past grows (table.past k x h) | inr h ↦ last_past k x h ];
        count = λ k x e. elim (split k x e) [ inl h ↦ table.count k x h ∙ ap entry_count (sym (kept k x h)) | inr h ↦ last_count k x h ];
        few = λ k x e. elim (split k x e) [ inl h ↦ table.few k x h | inr h ↦ last_few k x h ];
      };
      grows = grows;
      tells = tells place end;
    }

-- one row more, which goes on from an earlier one
pub pushed_after : (rows new : List Row) (n before count place : ℕ) (x : Entry) → IsTable rows → IsHistoryOf (told rows) n before → NamesBelow (length rows) x → count ≡ entry_count (history_in (told rows) before) → count ≤ before
    → new ≡ rows ++ record { node = n; count = count + 1; past = After before x } ∷ [] → place ≡ length rows
    → Pushed rows new place (record { node = n; history = followed (history_in (told rows) before) (entry_history (told rows) x) })
pushed_after rows new n before count place x table is names counted few eq end =
    let low = slice_get_within (told rows) before (record { node = n; history = is.0 }) is.1 in
    let low : before < length rows = omega (arith, low, length-built told_by rows) in
    pushed rows new (record { node = n; count = count + 1; past = After before x }) place table (low, names, is)
    (omega (arith, counted, count-followed (history_in (told rows) before) (entry_history (told rows) x), count-entry (told rows) x)) (omega (arith, low, few)) eq end

-- how far the appending of entries has come
pub record Extending (start rows : List Row) (n before last : ℕ) (rest all : List Entry) : Type 0 where
  pub table : IsTable rows
  pub grows : Extends (told start) (told rows)
  pub here : IsHistoryOf (told rows) n last
  pub names : AllNameBelow (length start) rest
  pub tells : followed (history_in (told rows) last) (entries_history (told start) rest) ≡ followed (history_in (told start) before) (entries_history (told start) all)

pub extending_first : (start : List Row) (n before : ℕ) (all : List Entry) → IsTable start → IsHistoryOf (told start) n before → AllNameBelow (length start) all → Extending start start n before before all all
extending_first start n before all table is names = record { table = table; grows = extends-same (told start); here = is; names = names; tells = refl }

pub extending_more : (start rows new : List Row) (n before last k : ℕ) (x : Entry) (xs all : List Entry) → Extending start rows n before last (x ∷ xs) all
    → IsTable new → Extends (told rows) (told new) → slice_get (told new) k ≡ Some (record { node = n; history = followed (history_in (told rows) last) (entry_history (told rows) x) })
    → Extending start new n before k xs all
extending_more start rows new n before last k x xs all so table grows tells =
    let h = history_in (told rows) last in
    let size : length (told start) ≡ length start = length-built told_by start in
    let same : entry_history (told rows) x ≡ entry_history (told start) x = entry-below (told rows) (told start) (length start) x so.names.0 (λ j low. history_in-grown (told start) (told rows) j so.grows (omega (arith, low, size))) in
    let now : history_in (told new) k ≡ followed h (entry_history (told start) x) = history_in-found (told new) k (record { node = n; history = followed h (entry_history (told rows) x) }) tells ∙ ap (followed h) same in
    record {
      table = table;
      grows = extends-twice (told start) (told rows) (told new) so.grows grows;
      here = (followed h (entry_history (told rows) x), tells);
      names = so.names.1;
      tells = ap (λ (g : History). followed g (entries_history (told start) xs)) now ∙ (followed-assoc h (entry_history (told start) x) (entries_history (told start) xs) ∙ so.tells);
    }

pub extending_done : (start rows : List Row) (n before last : ℕ) (all : List Entry) → Extending start rows n before last [] all
    → slice_get (told rows) last ≡ Some (record { node = n; history = followed (history_in (told start) before) (entries_history (told start) all) })
extending_done start rows n before last all so =
    let found : history_in (told rows) last ≡ so.here.0 = history_in-found (told rows) last (record { node = n; history = so.here.0 }) so.here.1 in
    so.here.1 ∙ ap (λ (g : History). Some (record { node = n; history = g })) (sym found ∙ (sym (followed-none (history_in (told rows) last)) ∙ so.tells))

pub names_weaker : (start rows : List Row) (x : Entry) → Extends (told start) (told rows) → NamesBelow (length start) x → length start ≤ length rows
names_weaker start rows x more names = omega (arith, length-extends (told start) (told rows) more, length-built told_by start, length-built told_by rows)
