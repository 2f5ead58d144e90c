-- Two instructions, and two programs, are equal exactly where `==` says so.
use Rattle.std.proofs.Common.{◌≡◌, ℕ, Bool, true, false, eqb, List, Option, Some, None, refl, sym, subst, ◌∙◌, ap}
use Rattle.std.specs.Prelude.{◌&&◌}
use Rattle.std.specs.Bool.{Decides, IsTrue}
use Rattle.std.proofs.lemmas.Bool.{eqb-true, eq-eqb}
use Rattle.kn_code.specs.declared.program.Instr.{Instr}
use Rattle.kn_code.specs.declared.program.Instr.TheVariants.{Const, Mov, Not, Ld, St, Ldx, Stx, Jmp, Brz, Input, Timer, Cancel, Send, Bcast, Recvw, Add, Sub, Mul, And, Or, Xor, Shl, Shr, Sar, Udiv, Urem, Eq, Ult, Slt, Rlen, Rfrom, Assert, Node, Now, Ret, Halt}
use Rattle.kn_code.specs.contracts.program.InstrPartialEq.TheImpl.{eq-value}
use Rattle.std.specs.Option.{option_eq}
use Rattle.std.specs.Cmp.Lexicographic.{pointwise}
use Rattle.std.proofs.lemmas.Slice.Eq.{slice_eq-Decides}
use Rattle.kn_code.specs.Code.{Code}
use Rattle.kn_code.proofs.Fields.{both_true}

one : {X : Type 0} (f : ℕ → X) (a x : ℕ) → eqb a x ≡ true → f a ≡ f x
one f a x e = ap f (eqb-true a x e)

two : {X : Type 0} (f : ℕ → ℕ → X) (a b x y : ℕ) → (eqb a x && eqb b y) ≡ true → f a b ≡ f x y
two f a b x y e =
    let h = both_true (eqb a x) (eqb b y) e in
    ap (λ (n : ℕ). f n b) (eqb-true a x h.0) ∙ one (f x) b y h.1

three : {X : Type 0} (f : ℕ → ℕ → ℕ → X) (a b c x y z : ℕ) → (eqb a x && (eqb b y && eqb c z)) ≡ true → f a b c ≡ f x y z
three f a b c x y z e =
    let h = both_true (eqb a x) (eqb b y && eqb c z) e in
    ap (λ (n : ℕ). f n b c) (eqb-true a x h.0) ∙ two (f x) b c y z h.1

four : {X : Type 0} (f : ℕ → ℕ → ℕ → ℕ → X) (a b c d x y z w : ℕ) → (eqb a x && (eqb b y && (eqb c z && eqb d w))) ≡ true → f a b c d ≡ f x y z w
four f a b c d x y z w e =
    let h = both_true (eqb a x) (eqb b y && (eqb c z && eqb d w)) e in
    ap (λ (n : ℕ). f n b c d) (eqb-true a x h.0) ∙ three (f x) b c d y z w h.1

abbrev code_with : List Instr → List (Option ℕ) → Code
code_with instrs handlers = record { instrs = instrs; handlers = handlers }

never : {P : Type 0} → false ≡ true → P
never e = absurd cc

pub same_instr : (i j : Instr) → eq-value.it i j ≡ true → i ≡ j
same_instr (Const a b) (Const x y) e = two Const a b x y e
same_instr (Mov a b) (Mov x y) e = two Mov a b x y e
same_instr (Not a b) (Not x y) e = two Not a b x y e
same_instr (Ld a b) (Ld x y) e = two Ld a b x y e
same_instr (St a b) (St x y) e = two St a b x y e
same_instr (Ldx a b c d) (Ldx x y z w) e = four Ldx a b c d x y z w e
same_instr (Stx a b c d) (Stx x y z w) e = four Stx a b c d x y z w e
same_instr (Jmp a) (Jmp x) e = one Jmp a x e
same_instr (Brz a b) (Brz x y) e = two Brz a b x y e
same_instr (Input a b) (Input x y) e = two Input a b x y e
same_instr (Timer a b) (Timer x y) e = two Timer a b x y e
same_instr (Cancel a) (Cancel x) e = one Cancel a x e
same_instr (Send a b c) (Send x y z) e = three Send a b c x y z e
same_instr (Bcast a b) (Bcast x y) e = two Bcast a b x y e
same_instr (Recvw a b) (Recvw x y) e = two Recvw a b x y e
same_instr (Add a b c) (Add x y z) e = three Add a b c x y z e
same_instr (Sub a b c) (Sub x y z) e = three Sub a b c x y z e
same_instr (Mul a b c) (Mul x y z) e = three Mul a b c x y z e
same_instr (And a b c) (And x y z) e = three And a b c x y z e
same_instr (Or a b c) (Or x y z) e = three Or a b c x y z e
same_instr (Xor a b c) (Xor x y z) e = three Xor a b c x y z e
same_instr (Shl a b c) (Shl x y z) e = three Shl a b c x y z e
same_instr (Shr a b c) (Shr x y z) e = three Shr a b c x y z e
same_instr (Sar a b c) (Sar x y z) e = three Sar a b c x y z e
same_instr (Udiv a b c) (Udiv x y z) e = three Udiv a b c x y z e
same_instr (Urem a b c) (Urem x y z) e = three Urem a b c x y z e
same_instr (Eq a b c) (Eq x y z) e = three Eq a b c x y z e
same_instr (Ult a b c) (Ult x y z) e = three Ult a b c x y z e
same_instr (Slt a b c) (Slt x y z) e = three Slt a b c x y z e
same_instr (Rlen a) (Rlen x) e = one Rlen a x e
same_instr (Rfrom a) (Rfrom x) e = one Rfrom a x e
same_instr (Assert a) (Assert x) e = one Assert a x e
same_instr (Node a) (Node x) e = one Node a x e
same_instr (Now a) (Now x) e = one Now a x e
same_instr Ret Ret e = refl
same_instr Halt Halt e = refl
same_instr i j e = never e

itself : (a : ℕ) → eqb a a ≡ true
itself a = eq-eqb a a refl

both_like : (a b : ℕ) → (eqb a a && eqb b b) ≡ true
both_like a b = rw (itself a, itself b) refl

three_like : (a b c : ℕ) → (eqb a a && (eqb b b && eqb c c)) ≡ true
three_like a b c = rw (itself a, itself b, itself c) refl

four_like : (a b c d : ℕ) → (eqb a a && (eqb b b && (eqb c c && eqb d d))) ≡ true
four_like a b c d = rw (itself a, itself b, itself c, itself d) refl

like_itself : (i : Instr) → eq-value.it i i ≡ true
like_itself (Const a b) = both_like a b
like_itself (Mov a b) = both_like a b
like_itself (Not a b) = both_like a b
like_itself (Ld a b) = both_like a b
like_itself (St a b) = both_like a b
like_itself (Ldx a b c d) = four_like a b c d
like_itself (Stx a b c d) = four_like a b c d
like_itself (Jmp a) = itself a
like_itself (Brz a b) = both_like a b
like_itself (Input a b) = both_like a b
like_itself (Timer a b) = both_like a b
like_itself (Cancel a) = itself a
like_itself (Send a b c) = three_like a b c
like_itself (Bcast a b) = both_like a b
like_itself (Recvw a b) = both_like a b
like_itself (Add a b c) = three_like a b c
like_itself (Sub a b c) = three_like a b c
like_itself (Mul a b c) = three_like a b c
like_itself (And a b c) = three_like a b c
like_itself (Or a b c) = three_like a b c
like_itself (Xor a b c) = three_like a b c
like_itself (Shl a b c) = three_like a b c
like_itself (Shr a b c) = three_like a b c
like_itself (Sar a b c) = three_like a b c
like_itself (Udiv a b c) = three_like a b c
like_itself (Urem a b c) = three_like a b c
like_itself (Eq a b c) = three_like a b c
like_itself (Ult a b c) = three_like a b c
like_itself (Slt a b c) = three_like a b c
like_itself (Rlen a) = itself a
like_itself (Rfrom a) = itself a
like_itself (Assert a) = itself a
like_itself (Node a) = itself a
like_itself (Now a) = itself a
like_itself Ret = refl
like_itself Halt = refl

some_is : (x y : ℕ) → Some x ≡ Some y → x ≡ y
some_is x y e = cc

same_code : (p q : Code) → p.instrs ≡ q.instrs → p.handlers ≡ q.handlers → p ≡ q
same_code p q a b =
    ap (λ (is : List Instr). code_with is p.handlers) a ∙ ap (code_with q.instrs) b

pub instr_decides : (i j : Instr) → Decides (eq-value.it i j) (i ≡ j)
instr_decides i j = (same_instr i j, λ same. subst (λ (k : Instr). eq-value.it i k ≡ true) same (like_itself i))

entry_decides : (x y : Option ℕ) → Decides (option_eq eqb x y) (x ≡ y)
entry_decides None None = (λ e. refl, λ e. refl)
entry_decides None (Some y) = (λ e. never e, λ e. absurd cc)
entry_decides (Some x) None = (λ e. never e, λ e. absurd cc)
entry_decides (Some x) (Some y) = (λ e. ap (λ (n : ℕ). Some n) (eqb-true x y e), λ e. eq-eqb x y (some_is x y e))

-- the handlers decide where the instructions are the same
pub same_handlers : (p q : Code) (first second : Bool) → first ≡ pointwise eq-value.it p.instrs q.instrs → first ≡ true → second ≡ pointwise (option_eq eqb) p.handlers q.handlers → (IsTrue second → p ≡ q) × (p ≡ q → IsTrue second)
same_handlers p q first second is agree entries =
    let a = slice_eq-Decides instr_decides p.instrs q.instrs first is in
    let b = slice_eq-Decides entry_decides p.handlers q.handlers second entries in
    (λ e. same_code p q (a.0 agree) (b.0 e), λ same. b.1 (ap (λ (c : Code). c.handlers) same))

-- programs with other instructions differ
pub other_instrs : (p q : Code) (first : Bool) → first ≡ pointwise eq-value.it p.instrs q.instrs → first ≡ false → (IsTrue first → p ≡ q) × (p ≡ q → IsTrue first)
other_instrs p q first is no_match =
    let a = slice_eq-Decides instr_decides p.instrs q.instrs first is in
    (λ e. never (sym no_match ∙ e), λ same. a.1 (ap (λ (c : Code). c.instrs) same))
