-- Formulas whose list of terms becomes longer.
use Rattle.std.proofs.Common.{◌≡◌, ℕ, zero, suc, ◌+◌, ◌-◌, ◌<◌, List, [], ◌∷◌, ◌++◌, length, take, get_or, Some, Result, Ok, Err, IfOk, OnOk, OnErr, map, refl, sym, ap, subst, ◌∙◌, arith, Vec}
use Rattle.std.specs.Prelude.{slice_get, slice_set}
use Rattle.std.specs.declared.alloc.Global.{Global}
use Rattle.std.specs.List.{AllByRecursion}
use Rattle.std.proofs.lemmas.List.{take_more, map-append}
use Rattle.kn_built.specs.Built.{Extends}
use Rattle.kn_built.proofs.Sorted.{All-each}
use Rattle.kn_term.specs.declared.node.Node.{Node}
use Rattle.kn_term.specs.declared.node.Ref.{Ref}
use Rattle.kn_term.specs.declared.node.Literal.{Literal as Listed}
use Rattle.kn_term.specs.Terms.{Term}
use Rattle.kn_term.specs.Nodes.{term_at}
use Rattle.kn_cond.specs.Literals.{Literal}
use Rattle.kn_cond.specs.Conditions.{Condition}
use Rattle.kn_cond.specs.Meanings.{literal_of, condition_of, StandIn}
use Rattle.kn_cond.proofs.Kept.{StandIn-extends, StandIn-append, condition_of-extends, condition_of-append}
use Rattle.kn_solve.specs.Formulas.{Asked, to_last, column_of, ColumnStands, ColumnsStand}

stand_one : (ns : List Node) (l : Listed) → l.term.index < length ns → StandIn ns (l ∷ [])
stand_one ns l h zero m e = let same : l ≡ m = cc in subst (λ (x : Listed). x.term.index < length ns) same h
stand_one ns l h (suc place) m e = absurd (none place e)
  where
    none : (place : ℕ) → slice_get [] place ≡ Some m → ⊥
    none zero e = cc
    none (suc place) e = cc

-- a literal more that stands
pub stand_more : (old new : List Node) (ls : List Listed) (l : Listed) → Extends old new → StandIn old ls → l.term.index < length new → StandIn new (ls ++ l ∷ [])
stand_more old new ls l e stand h = StandIn-append new ls (l ∷ []) (StandIn-extends old new ls e stand) (stand_one new l h)

-- a literal more that means one of another list
pub imported_more : (old new other : List Node) (ls c : List Listed) (i : ℕ) (d : Listed) (s : Ref) → Extends old new → StandIn old ls → condition_of old ls ≡ condition_of other (take i c) → i < length c
    → term_at new s.index ≡ term_at other (get_or c i d).term.index → condition_of new (ls ++ record { term = s; truth = (get_or c i d).truth } ∷ []) ≡ condition_of other (take (i + 1) c)
imported_more old new other ls c i d s e stand so_far h same =
    let l = get_or c i d in
    let m : Listed = record { term = s; truth = l.truth } in
    let one : literal_of new m ≡ literal_of other l = ap (λ (t : Term). record { value = t; truth = l.truth }) same in
    let front : condition_of new ls ≡ condition_of other (take i c) = condition_of-extends old new ls e stand ∙ so_far in
    condition_of-append new ls (m ∷ [])
    ∙ (ap (λ (x : Condition). x ++ literal_of new m ∷ []) front
    ∙ (ap (λ (x : Literal Term). condition_of other (take i c) ++ x ∷ []) one
    ∙ (sym (condition_of-append other (take i c) (l ∷ [])) ∙ ap (condition_of other) (sym (take_more c i d h)))))

-- the literals as they are pushed
pub imported_step : (old new other : List Node) (ls after c : List Listed) (i : ℕ) (d : Listed) (s : Ref) → after ≡ ls ++ record { term = s; truth = (get_or c i d).truth } ∷ [] → Extends old new → StandIn old ls → condition_of old ls ≡ condition_of other (take i c) → i < length c
    → term_at new s.index ≡ term_at other (get_or c i d).term.index → condition_of new after ≡ condition_of other (take (i + 1) c)
imported_step old new other ls after c i d s is e stand so_far h same = ap (condition_of new) is ∙ imported_more old new other ls c i d s e stand so_far h same

pub stand_step : (old new : List Node) (ls after : List Listed) (l : Listed) → after ≡ ls ++ l ∷ [] → Extends old new → StandIn old ls → l.term.index < length new → StandIn new after
stand_step old new ls after l is e stand h = subst (StandIn new) (sym is) (stand_more old new ls l e stand h)

-- alternatives mean the same in a longer list of terms
pub alternatives_kept : (old new : List Node) (cs : List (List Listed)) → Extends old new → AllByRecursion (StandIn old) cs → map (condition_of new) cs ≡ map (condition_of old) cs
alternatives_kept old new [] e all = refl
alternatives_kept old new (c ∷ cs) e all =
    ap (λ (x : Condition). x ∷ map (condition_of new) cs) (condition_of-extends old new c e all.0) ∙ ap (λ (xs : List Condition). condition_of old c ∷ xs) (alternatives_kept old new cs e all.1)

pub columns_kept : (old new : List Node) (css : List (Vec (List Listed) Global)) → Extends old new → ColumnsStand old css → map (column_of new) css ≡ map (column_of old) css
columns_kept old new [] e all = refl
columns_kept old new (cs ∷ css) e all =
    ap (λ (x : List Condition). x ∷ map (column_of new) css) (alternatives_kept old new cs.items e all.0) ∙ ap (λ (xs : List (List Condition)). column_of old cs ∷ xs) (columns_kept old new css e all.1)

pub columns_stand : (old new : List Node) (css : List (Vec (List Listed) Global)) → Extends old new → ColumnsStand old css → ColumnsStand new css
columns_stand old new css e all = All-each (ColumnStands old) (ColumnStands new) (λ v one. All-each (StandIn old) (StandIn new) (λ c s. StandIn-extends old new c e s) v.items one) css all

-- what a formula asks for, over a list of terms
abbrev pub stated : List Node → List Listed → List (Vec (List Listed) Global) → Asked
stated ns ls css = record { condition = condition_of ns ls; columns = map (column_of ns) css }

-- a formula asks for the same over a longer list of terms
pub stated_kept : (old new : List Node) (ls : List Listed) (css : List (Vec (List Listed) Global)) → Extends old new → StandIn old ls → ColumnsStand old css → stated new ls css ≡ stated old ls css
stated_kept old new ls css e stand all =
    ap (λ (c : Condition). record { condition = c; columns = map (column_of new) css }) (condition_of-extends old new ls e stand)
    ∙ ap (λ (cs : List (List Condition)). record { condition = condition_of old ls; columns = cs }) (columns_kept old new css e all)

-- what holds at all holds where a call fails, or where it does not
pub on_err : {A E : Type 0} (r : Result A E) (P : Type 0) → P → OnErr r P
on_err (Ok x) P p = tt
on_err (Err e) P p = p

pub if_each : {A E : Type 0} (r : Result A E) (P Q : A → Type 0) → ((x : A) → P x → Q x) → IfOk r P → IfOk r Q
if_each (Ok x) P Q f p = f x p
if_each (Err e) P Q f p = tt

pub on_ok : {A E : Type 0} (r : Result A E) (P Q : Type 0) → (P → Q) → OnOk r P → OnOk r Q
on_ok (Ok x) P Q f p = f p
on_ok (Err e) P Q f p = tt

pub on_err_each : {A E : Type 0} (r : Result A E) (P Q : Type 0) → (P → Q) → OnErr r P → OnErr r Q
on_err_each (Ok x) P Q f p = tt
on_err_each (Err e) P Q f p = f p

-- the literals that were joined, or those that stood before
pub joined_stand : {A E : Type 0} (r : Result A E) (old new : List Node) (ls more after : List Listed) → Extends old new → StandIn old ls → StandIn new more → OnOk r (after ≡ ls ++ more) → OnErr r (after ≡ ls) → StandIn new after
joined_stand (Ok x) old new ls more after e stand behind is not = subst (StandIn new) (sym is) (StandIn-append new ls more (StandIn-extends old new ls e stand) behind)
joined_stand (Err x) old new ls more after e stand behind is not = subst (StandIn new) (sym not) (StandIn-extends old new ls e stand)

-- a formula with joined literals
pub joined_stated : (old new : List Node) (ls more after : List Listed) (css : List (Vec (List Listed) Global)) (c : Condition) (whole : Asked) → Extends old new → StandIn old ls → ColumnsStand old css → condition_of new more ≡ c → stated old ls css ≡ whole → after ≡ ls ++ more
    → stated new after css ≡ record { condition = whole.condition ++ c; columns = whole.columns }
joined_stated old new ls more after css c whole e stand all same is joined =
    let first : condition_of new after ≡ condition_of old ls ++ c = ap (condition_of new) joined ∙ (condition_of-append new ls more ∙ (ap (λ (x : Condition). x ++ condition_of new more) (condition_of-extends old new ls e stand) ∙ ap (λ (x : Condition). condition_of old ls ++ x) same)) in
    ap (λ (x : Condition). record { condition = x; columns = map (column_of new) css }) first
    ∙ (ap (λ (x : List (List Condition)). record { condition = condition_of old ls ++ c; columns = x }) (columns_kept old new css e all)
    ∙ ap (λ (f : Asked). record { condition = f.condition ++ c; columns = f.columns }) is)

-- a formula with one alternative more
pub last_stated : (old new : List Node) (ls d : List Listed) (css after : List (Vec (List Listed) Global)) (c : Condition) (whole : Asked) → Extends old new → StandIn old ls → ColumnsStand old css → condition_of new d ≡ c → stated old ls css ≡ whole
    → ((ns : List Node) → map (column_of ns) after ≡ to_last (condition_of ns d) (map (column_of ns) css)) → stated new ls after ≡ record { condition = whole.condition; columns = to_last c whole.columns }
last_stated old new ls d css after c whole e stand all same is put =
    ap (λ (x : Condition). record { condition = x; columns = map (column_of new) after }) (condition_of-extends old new ls e stand)
    ∙ (ap (λ (x : List (List Condition)). record { condition = condition_of old ls; columns = x }) (put new ∙ (ap (λ (x : Condition). to_last x (map (column_of new) css)) same ∙ ap (to_last c) (columns_kept old new css e all)))
    ∙ ap (λ (f : Asked). record { condition = f.condition; columns = to_last c f.columns }) is)

-- columns that mean the same over each list of terms
pub same_stated : (old new : List Node) (ls : List Listed) (css after : List (Vec (List Listed) Global)) (whole : Asked) → Extends old new → StandIn old ls → ColumnsStand old css → stated old ls css ≡ whole
    → ((ns : List Node) → map (column_of ns) after ≡ map (column_of ns) css) → stated new ls after ≡ whole
same_stated old new ls css after whole e stand all is put =
    ap (λ (x : List (List Condition)). record { condition = condition_of new ls; columns = x }) (put new) ∙ (stated_kept old new ls css e stand all ∙ is)

-- the last of a list is another one
pub push_at : {V : Type 0} → (f : V → List Condition) (css : List V) (i : ℕ) (v d : V) (c : Condition) → i + 1 ≡ length css → f v ≡ f (get_or css i d) ++ c ∷ [] → map f (slice_set css i v) ≡ to_last c (map f css)
push_at f [] i v d c h e = absurd (omega (arith, h))
push_at f (x ∷ []) zero v d c h e = ap (λ (y : List Condition). y ∷ []) e
push_at f (x ∷ []) (suc i) v d c h e = absurd (omega (arith, h))
push_at f (x ∷ y ∷ css) zero v d c h e = absurd (omega (arith, h))
push_at f (x ∷ y ∷ css) (suc i) v d c h e = ap (λ (l : List (List Condition)). f x ∷ l) (push_at f (y ∷ css) i v d c (omega (arith, h)) e)

pub same_at : {V : Type 0} → (f : V → List Condition) (css : List V) (i : ℕ) (v d : V) → f v ≡ f (get_or css i d) → map f (slice_set css i v) ≡ map f css
same_at f [] i v d e = refl
same_at f (x ∷ css) zero v d e = ap (λ (y : List Condition). y ∷ map f css) e
same_at f (x ∷ css) (suc i) v d e = ap (λ (l : List (List Condition)). f x ∷ l) (same_at f css i v d e)

pub pushed_last : (ns : List Node) (css : List (Vec (List Listed) Global)) (v d : Vec (List Listed) Global) (c : List Listed) (k : ℕ) → k ≡ length css → 0 < length css → v.items ≡ (get_or css (k - 1) d).items ++ c ∷ []
    → map (column_of ns) (slice_set css (k - 1) v) ≡ to_last (condition_of ns c) (map (column_of ns) css)
pushed_last ns css v d c k same h items =
    push_at (column_of ns) css (k - 1) v d (condition_of ns c) (omega (arith, h, same)) (ap (map (condition_of ns)) items ∙ map-append (condition_of ns) (get_or css (k - 1) d).items (c ∷ []))

pub same_last : (ns : List Node) (css : List (Vec (List Listed) Global)) (v d : Vec (List Listed) Global) (place : ℕ) → v.items ≡ (get_or css place d).items → map (column_of ns) (slice_set css place v) ≡ map (column_of ns) css
same_last ns css v d place e = same_at (column_of ns) css place v d (ap (map (condition_of ns)) e)

-- literals that stayed as they were
pub left_stated : (old new : List Node) (ls after : List Listed) (css : List (Vec (List Listed) Global)) (whole : Asked) → Extends old new → StandIn old ls → ColumnsStand old css → stated old ls css ≡ whole → after ≡ ls → stated new after css ≡ whole
left_stated old new ls after css whole e stand all is left = ap (λ (x : List Listed). stated new x css) left ∙ (stated_kept old new ls css e stand all ∙ is)
