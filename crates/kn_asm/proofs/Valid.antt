-- Lines without a fault give a valid program.
use Rattle.std.proofs.Common.{◌≡◌, ℕ, ◌+◌, ◌^◌, ◌<◌, ◌≤◌, Bool, true, false, not, List, [], ◌∷◌, ◌++◌, length, Option, Some, None, refl, sym, ap, ◌∙◌, inl, inr, arith, IfSome}
use Rattle.std.specs.Prelude.{◌&&◌, ◌==◌, if◌then◌else◌, is_some, unwrap_or}
use Rattle.std.specs.List.{flat_map}
use Rattle.std.proofs.lemmas.Bool.{cases_Bool, cases_eq, eqb-false, and_cases, or_parts, not-false, false≢true}
use Rattle.kn_code.specs.declared.program.Instr.{Instr}
use Rattle.kn_code.specs.declared.program.Instr.TheVariants.{Jmp, Brz, Ret, Halt}
use Rattle.kn_code.specs.Code.{IsInstr, Ends, AllWithLeft, Stands, Names, IsValid}
use Rattle.kn_asm.specs.declared.fault.AsmCause.{AsmCause}
use Rattle.kn_asm.specs.declared.fault.AsmCause.TheVariants as causes
use Rattle.kn_asm.specs.declared.fault.AsmFault.{AsmFault}
use Rattle.kn_asm.specs.Meaning.{Content, nothing, wrong, does, IsSound}
use Rattle.kn_asm.specs.Lines.{Line, is_instr_lem, counted_lem, target_of_lem, AreSound}
use Rattle.kn_asm.specs.Assembling.{instrs_in, has_label, place_from, place_of, or_else, given, wrong_in, is_twice, is_lost, is_miscounted, ends_lem, is_open, fault_of, refused, first_fault_from, first_fault_lem, aimed_lem, target_place, settled_lem, code_of_lines}
use Rattle.kn_asm.proofs.Faults.{instrs_more}

-- ---- what a line without a fault is

or_none : (a b : Option AsmCause) → or_else a b ≡ None → (a ≡ None) × (b ≡ None)
or_none None b e = (refl, e)
or_none (Some c) b e = absurd cc

given_none : (b : Bool) (cause : AsmCause) → given b cause ≡ None → b ≡ false
given_none true cause e = absurd cc
given_none false cause e = refl

record IsFine (before : List Line) (l : Line) (after : List Line) : Type 0 where
  right : wrong_in l.content ≡ None
  counted : is_miscounted l.content (instrs_in before) (length after == 0) ≡ false
  closed : ((instrs_in after == 0) && is_open l.label l.content) ≡ false

fine : (all before : List Line) (l : Line) (after : List Line) → fault_of all before l after ≡ None → IsFine before l after
fine all before l after e =
    let a = or_none (wrong_in l.content) _ e in
    let b = or_none (given (is_twice (place_of before) l.label) causes.Twice) _ a.1 in
    let c = or_none (given (is_lost (place_of all) (target_of_lem l.content)) causes.NoLabel) _ b.1 in
    let d = or_none (given (is_miscounted l.content (instrs_in before) (length after == 0)) causes.Count) _ c.1 in
    record { right = a.0; counted = given_none _ causes.Count d.0; closed = given_none _ causes.End d.1 }

abbrev AllFine : List Line → List Line → Type 0
AllFine before [] = Unit {0}
AllFine before (l ∷ ls) = IsFine before l ls × AllFine (before ++ l ∷ []) ls

refused_none : (line : ℕ) (fault : Option AsmCause) (others : Option AsmFault) → refused line fault others ≡ None → (fault ≡ None) × (others ≡ None)
refused_none line None others e = (refl, e)
refused_none line (Some c) others e = absurd cc

all_fine : (all before ls : List Line) → first_fault_from all before ls ≡ None → AllFine before ls
all_fine all before [] e = tt
all_fine all before (l ∷ ls) e =
    let h = refused_none (length before + 1) (fault_of all before l ls) (first_fault_from all (before ++ l ∷ []) ls) e in
    (fine all before l ls h.0, all_fine all (before ++ l ∷ []) ls h.1)

-- ---- how many instructions there are

positive : (n : ℕ) → (n == 0) ≡ false → 0 < n
positive n e = let other = eqb-false n 0 e in elim (cases_eq n 0) [ inl z ↦ absurd (other z) | inr differs ↦ omega (arith, differs) ]

some_instr : (before : List Line) (l : Line) (ls : List Line) → AllFine before (l ∷ ls) → 0 < instrs_in before + instrs_in (l ∷ ls)
some_instr before l [] h =
    let c : instrs_in (l ∷ []) ≡ counted_lem l.content + 0 = refl in
    let p : 0 < instrs_in before + counted_lem l.content = positive (instrs_in before + counted_lem l.content) (or_parts _ _ h.0.counted).1 in
    omega (arith, p, c)
some_instr before l (m ∷ ls) h =
    let more = some_instr (before ++ l ∷ []) m ls h.1 in
    let e = instrs_more before l in
    omega (arith, more, e)

few_at : (b : Bool) (n : ℕ) → (b && (n == 4096)) ≡ false → n ≤ 4096 → n + (if b then 1 else 0) ≤ 4096
few_at true n e le = let other = eqb-false n 4096 e in elim (cases_eq n 4096) [ inl same ↦ absurd (other same) | inr differs ↦ omega (arith, differs, le) ]
few_at false n e le = omega (arith, le)

few_instrs : (before ls : List Line) → AllFine before ls → instrs_in before ≤ 4096 → instrs_in before + instrs_in ls ≤ 4096
few_instrs before [] h le = omega (arith, le)
few_instrs before (l ∷ ls) h le =
    let a = or_parts _ _ h.0.counted in
    let one = few_at (is_instr_lem l.content) (instrs_in before) a.0 le in
    let e = instrs_more before l in
    let more = few_instrs (before ++ l ∷ []) ls h.1 (omega (arith, one, e)) in
    omega (arith, more, e)

-- ---- places

some_after : (label : Option (List ℕ)) (name : List ℕ) (content : Content) (after : ℕ) → label ≡ Some name → wrong_in content ≡ None → ((after == 0) && is_open label content) ≡ false
    → 0 < counted_lem content + after
some_after label name (does i target) after is right closed = omega arith
some_after label name (wrong cause) after is right closed = absurd cc
some_after label name nothing after is right closed =
    elim (and_cases (after == 0) (is_some label) closed) [
      | inl none ↦ let other = eqb-false after 0 none in elim (cases_eq after 0) [ inl z ↦ absurd (other z) | inr n ↦ omega (arith, n) ]
      | inr bare ↦ absurd (false≢true (sym bare ∙ ap is_some is))
    ]

labelled_is : (name : List ℕ) (label : Option (List ℕ)) → has_label name label ≡ true → (found : List ℕ) × (label ≡ Some found)
labelled_is name None e = absurd cc
labelled_is name (Some found) e = (found, refl)

places_below : (q : List ℕ) (before ls : List Line) (index total : ℕ) → AllFine before ls → total ≡ index + instrs_in ls → IfSome (place_from q index ls) (λ p. p < total)
unfolding place_from
places_below q before [] index total h e = tt
places_below q before (l ∷ ls) index total h e =
    let more : IfSome (place_from q (index + counted_lem l.content) ls) (λ p. p < total) = places_below q (before ++ l ∷ []) ls (index + counted_lem l.content) total h.1 (omega (arith, e)) in
    elim (cases_Bool (has_label q l.label)) [
      | inl y ↦ let found = labelled_is q l.label y in
          let some = some_after l.label found.0 l.content (instrs_in ls) found.1 h.0.right h.0.closed in
          rw y (omega (arith, some, e))
      | inr n ↦ rw n more
    ]

-- ---- the instructions

aimed_in_range : (count to : ℕ) (i : Instr) → IsInstr 1 i → to < count → IsInstr count (aimed_lem i to)
aimed_in_range count to (Jmp x) h lt = lt
aimed_in_range count to (Brz a x) h lt = (h.0, lt)
aimed_in_range count to other h lt = h

aimed_ends : (to : ℕ) (i : Instr) → ends_lem i ≡ true → Ends (aimed_lem i to)
aimed_ends to (Jmp x) e = tt
aimed_ends to Ret e = tt
aimed_ends to Halt e = tt
aimed_ends to other e = absurd cc

target_below : (places : List ℕ → Option ℕ) (target : Option (List ℕ)) (count : ℕ) → 0 < count → ((q : List ℕ) → IfSome (places q) (λ p. p < count)) → target_place places target < count
target_below places None count some below = some
target_below places (Some q) count some below = go (places q) (below q)
  where
    go : (o : Option ℕ) → IfSome o (λ p. p < count) → unwrap_or o 0 < count
    go None h = some
    go (Some p) h = h

length_settled : (places : List ℕ → Option ℕ) (before ls : List Line) → AllFine before ls → length (flat_map (λ (l : Line). settled_lem places l.content) ls) ≡ instrs_in ls
length_settled places before [] h = refl
length_settled places before (l ∷ ls) h = go l.content h.0.right (length_settled places (before ++ l ∷ []) ls h.1)
  where
    go : (c : Content) → wrong_in c ≡ None → length (flat_map (λ (l : Line). settled_lem places l.content) ls) ≡ instrs_in ls
        → length (settled_lem places c ++ flat_map (λ (l : Line). settled_lem places l.content) ls) ≡ counted_lem c + instrs_in ls
    go nothing right more = more ∙ omega arith
    go (wrong cause) right more = absurd cc
    go (does i target) right more = omega (arith, more)

all_stand : (places : List ℕ → Option ℕ) (count : ℕ) (before ls : List Line) → 0 < count → ((q : List ℕ) → IfSome (places q) (λ p. p < count)) → AllFine before ls → AreSound ls
    → AllWithLeft (Stands count) (flat_map (λ (l : Line). settled_lem places l.content) ls)
all_stand places count before [] some below h sound = tt
all_stand places count before (l ∷ ls) some below h sound =
    go l.label l.content h.0.right h.0.closed sound.0 (length_settled places (before ++ l ∷ []) ls h.1) (all_stand places count (before ++ l ∷ []) ls some below h.1 sound.1)
  where
    go : (label : Option (List ℕ)) (c : Content) → wrong_in c ≡ None → ((instrs_in ls == 0) && is_open label c) ≡ false → IsSound c → length (flat_map (λ (l : Line). settled_lem places l.content) ls) ≡ instrs_in ls
        → AllWithLeft (Stands count) (flat_map (λ (l : Line). settled_lem places l.content) ls)
        → AllWithLeft (Stands count) (settled_lem places c ++ flat_map (λ (l : Line). settled_lem places l.content) ls)
    go label nothing right closed sound len more = more
    go label (wrong cause) right closed sound len more = absurd cc
    go label (does i target) right closed sound len more = (
      (
        aimed_in_range count (target_place places target) i sound (target_below places target count some below),
        λ none. aimed_ends (target_place places target) i (
            elim (and_cases (instrs_in ls == 0) (not (ends_lem i)) closed) [
              | inl other ↦ absurd (eqb-false (instrs_in ls) 0 other (sym len ∙ none))
              | inr e ↦ not-false (ends_lem i) e
            ]),
      ),
      more,
    )

-- ---- the whole

pub few_places : (ls : List Line) → first_fault_lem ls ≡ None → (q : List ℕ) → IfSome (place_of ls q) (λ p. p < 2 ^ 16)
few_places ls e q =
    let h = all_fine ls [] ls e in
    let few : 0 + instrs_in ls ≤ 4096 = few_instrs [] ls h (omega arith) in
    let below : IfSome (place_of ls q) (λ p. p < instrs_in ls) = places_below q [] ls 0 (instrs_in ls) h (omega arith) in
    go (place_of ls q) (instrs_in ls) (omega (arith, few)) below
  where
    go : (o : Option ℕ) (n : ℕ) → n ≤ 4096 → IfSome o (λ p. p < n) → IfSome o (λ p. p < 2 ^ 16)
    go None n le h = tt
    go (Some p) n le h = omega (arith, le, h)

names_at : (o : Option ℕ) (count left : ℕ) → IfSome o (λ p. p < count) → Names count left o
names_at o count left h = h

pub valid : (ls : List Line) → 0 < length ls → AreSound ls → first_fault_lem ls ≡ None → IsValid (code_of_lines ls)
valid [] some sound e = absurd (omega (arith, some))
valid (l ∷ ls) some sound e =
    let all : List Line = l ∷ ls in
    let h : AllFine [] all = all_fine all [] all e in
    let n : length (flat_map (λ (x : Line). settled_lem (place_of all) x.content) all) ≡ instrs_in all = length_settled (place_of all) [] all h in
    let least : 0 < 0 + instrs_in all = some_instr [] l ls h in
    let most : 0 + instrs_in all ≤ 4096 = few_instrs [] all h (omega arith) in
    let below : (q : List ℕ) → IfSome (place_of all q) (λ p. p < length (flat_map (λ (x : Line). settled_lem (place_of all) x.content) all)) = λ q. places_below q [] all 0 _ h (n ∙ omega arith) in
    record {
      some = omega (arith, n, least);
      fits = omega (arith, n, most);
      instrs = all_stand (place_of all) _ [] all (omega (arith, n, least)) below h sound;
      ten = refl;
      handlers = (below _, (below _, (below _, (below _, (below _, (below _, (below _, (below _, (below _, (below _, tt))))))))));
    }
