-- Lines one behind another are the text of an element, and elements one behind another that of a list.
use Rattle.std.proofs.Common.{◌≡◌, ◌⊎◌, inl, inr, ℕ, List, length, [], ◌∷◌, ◌++◌, codes, slice_index_or, zero, suc, ◌+◌, drop, flat_map, zip, slice_get, Some, None, refl, sym, ap, ◌∙◌, arith, append_assoc, append-nil}
use Rattle.std.proofs.lemmas.Option.{none-some, same_Some}
use Rattle.kn_term.specs.Terms.{Given}
use Rattle.kn_plan.specs.Nets.{Plan, Link, Limits}
use Rattle.kn_code.specs.Code.{Code}
use Rattle.kn_plan.specs.Files.{File}
use Rattle.kn_netfile.specs.Printing.{line_text, number_line, quoted, header_text, numbers_text, limits_text, program_text, node_text, link_text, input_text, file_text}

pub limits_written : (old a b c d e new : List ℕ) (l : Limits) → a ≡ old ++ number_line (codes "version") 1 → b ≡ a ++ number_line (codes "ticks") l.ticks → c ≡ b ++ number_line (codes "fuel") l.fuel
    → d ≡ c ++ number_line (codes "conflicts") l.conflicts → e ≡ d ++ number_line (codes "states") l.states → new ≡ e ++ number_line (codes "dstates") l.dstates → new ≡ old ++ limits_text l
unfolding limits_text
limits_written old a b c d e new l p q r s t u = rw (u, t, s, r, q, p) (simp (append_assoc, append-nil))

five_written : (old a b c d new p q r s t : List ℕ) → a ≡ old ++ p → b ≡ a ++ q → c ≡ b ++ r → d ≡ c ++ s → new ≡ d ++ t → new ≡ old ++ (p ++ (q ++ (r ++ (s ++ (t ++ [])))))
five_written old a b c d new p q r s t e f g h i = rw (i, h, g, f, e) (simp (append_assoc, append-nil))

pub node_written : (old a b c d new name : List ℕ) (names : List (List ℕ)) (p : Plan) → name ≡ slice_index_or names p.program [] → a ≡ old ++ header_text (codes "node") → b ≡ a ++ line_text (codes "program") (quoted name)
    → c ≡ b ++ number_line (codes "loss") p.loss → d ≡ c ++ number_line (codes "duplicate") p.duplicate → new ≡ d ++ line_text (codes "reboot") (numbers_text p.reboot) → new ≡ old ++ node_text names p
unfolding node_text
node_written old a b c d new name names plan is e f g h i =
    five_written old a b c d new (header_text (codes "node")) (line_text (codes "program") (quoted (slice_index_or names plan.program []))) (number_line (codes "loss") plan.loss)
    (number_line (codes "duplicate") plan.duplicate) (line_text (codes "reboot") (numbers_text plan.reboot)) e (f ∙ ap (λ (n : List ℕ). a ++ line_text (codes "program") (quoted n)) is) g h i

pub link_written : (old a b c new : List ℕ) (l : Link) → a ≡ old ++ header_text (codes "link") → b ≡ a ++ number_line (codes "from") l.from → c ≡ b ++ number_line (codes "to") l.to
    → new ≡ c ++ number_line (codes "delay") l.delay → new ≡ old ++ link_text l
unfolding link_text
link_written old a b c new l p q r s = rw (s, r, q, p) (simp (append_assoc, append-nil))

pub input_written : (old a b c new : List ℕ) (g : Given) → a ≡ old ++ header_text (codes "input") → b ≡ a ++ number_line (codes "node") g.node → c ≡ b ++ number_line (codes "index") g.index
    → new ≡ c ++ number_line (codes "value") g.word → new ≡ old ++ input_text g
unfolding input_text
input_written old a b c new g p q r s = rw (s, r, q, p) (simp (append_assoc, append-nil))

-- ---- inputs, one after another

-- what is left from a place on begins with what stands there
from_place : (gs : List Given) (i : ℕ) (g : Given) → slice_get gs i ≡ Some g → drop i gs ≡ g ∷ drop (suc i) gs
from_place [] i g e = absurd (none-some g e)
from_place (x ∷ gs) zero g e = ap (λ (y : Given). y ∷ gs) (same_Some x g e)
from_place (x ∷ gs) (suc i) g e = from_place gs i g e

-- and is nothing where nothing stands there
past_all : (gs : List Given) (i : ℕ) → slice_get gs i ≡ None → drop i gs ≡ []
past_all [] zero e = refl
past_all [] (suc i) e = refl
past_all (x ∷ gs) zero e = absurd (none-some x (sym e))
past_all (x ∷ gs) (suc i) e = past_all gs i e

-- one input more
pub input_more : (old new start : List ℕ) (gs : List Given) (place : ℕ) (g : Given) → slice_get gs place ≡ Some g → new ≡ old ++ input_text g
    → old ++ flat_map input_text (drop place gs) ≡ start → new ++ flat_map input_text (drop (place + 1) gs) ≡ start
input_more old new start gs place g at written before =
    let next : suc place ≡ place + 1 = omega arith in
    let rest : drop place gs ≡ g ∷ drop (place + 1) gs = from_place gs place g at ∙ ap (λ (j : ℕ). g ∷ drop j gs) next in
    ap (λ (l : List ℕ). l ++ flat_map input_text (drop (place + 1) gs)) written
    ∙ append_assoc old (input_text g) (flat_map input_text (drop (place + 1) gs))
    ∙ ap (λ (l : List Given). old ++ flat_map input_text l) (sym rest)
    ∙ before

-- no input is left
pub inputs_done : (old start : List ℕ) (gs : List Given) (place : ℕ) → slice_get gs place ≡ None → old ++ flat_map input_text (drop place gs) ≡ start → old ≡ start
inputs_done old start gs place at before = sym (append-nil old) ∙ ap (λ (l : List Given). old ++ flat_map input_text l) (sym (past_all gs place at)) ∙ before

-- ---- programs, one after another

-- names or programs have ended
pub programs_done : (old start : List ℕ) (names : List (List ℕ)) (programs : List Code) → (length names ≡ 0) ⊎ (length programs ≡ 0) → old ++ flat_map program_text (zip names programs) ≡ start → old ≡ start
programs_done old start [] programs ended before = sym (append-nil old) ∙ before
programs_done old start (n ∷ ns) [] ended before = sym (append-nil old) ∙ before
programs_done old start (n ∷ ns) (p ∷ ps) (inl e) before = absurd (omega (arith, e))
programs_done old start (n ∷ ns) (p ∷ ps) (inr e) before = absurd (omega (arith, e))

-- ---- the whole text

pub file_written : (start a b c d new : List ℕ) (file : File) (names others : List (List ℕ)) (programs : List Code) (plans : List Plan) (links : List Link)
    → names ≡ file.names → programs ≡ file.network.programs → others ≡ file.names → plans ≡ file.network.nodes → links ≡ file.network.links
    → start ≡ [] → a ≡ start ++ limits_text file.network.limits → b ≡ a ++ flat_map program_text (zip names programs) → c ≡ b ++ flat_map (node_text others) plans → d ≡ c ++ flat_map link_text links
    → new ≡ d ++ flat_map input_text file.inputs → new ≡ file_text file
unfolding file_text
file_written start a b c d new file names others programs plans links e f g h i nothing p q r s t = rw (t, s, r, q, p, nothing, e, f, g, h, i) (simp append_assoc)
