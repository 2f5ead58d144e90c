-- Histories as trees of numbers, by which proofs tell values with histories in them apart.
use Rattle.std.proofs.Common.{ap, sym, ◌∙◌}
use Rattle.std.specs.Prelude.{◌≡◌, refl, ℕ, suc, Bool, List}
use Rattle.std.specs.Coded.{coded_bool, coded_list}
use base.Stored.{Coded, Gv, gnil, gnum, gcons}
use Rattle.kn_packet.specs.declared.packet.Event.{Event}
use Rattle.kn_packet.specs.declared.packet.Event.TheVariants as events
use Rattle.kn_packet.specs.Histories.{History, Done, AndRan, AndGot}

abbrev event_tree : Event → Gv
event_tree events.Boot = gnum 0
event_tree events.Reboot = gnum 1
event_tree (events.Packet from seq copy) = gcons (gnum from) (gcons (gnum seq) (gnum copy))
event_tree (events.Timer number) = gcons gnil (gnum number)

abbrev event_at : Gv → Event
event_at (gnum (suc n)) = events.Reboot
event_at (gcons (gnum from) (gcons (gnum seq) (gnum copy))) = events.Packet from seq copy
event_at (gcons gnil (gnum number)) = events.Timer number
event_at other = events.Boot

pub event_back : (e : Event) → event_at (event_tree e) ≡ e
event_back events.Boot = refl
event_back events.Reboot = refl
event_back (events.Packet from seq copy) = refl
event_back (events.Timer number) = refl

abbrev event_code : Coded Event
event_code = record { code = event_tree; inj = λ x y p. sym (event_back x) ∙ (ap event_at p ∙ event_back y) }

abbrev bits_code : Coded (List Bool)
bits_code = coded_list coded_bool

abbrev tree_of : History → Gv
tree_of Done = gnil
tree_of (AndRan e b r) = gcons (gcons (event_code.code e) (bits_code.code b)) (tree_of r)
tree_of (AndGot n s b q c r) = gcons (gnum n) (gcons (tree_of s) (gcons (bits_code.code b) (gcons (gnum q) (gcons (gnum c) (tree_of r)))))

abbrev head : Gv → Gv
head (gcons a b) = a
head other = gnil

abbrev tail : Gv → Gv
tail (gcons a b) = b
tail other = gnil

abbrev number : Gv → ℕ
number (gnum n) = n
number other = 0

abbrev kind : Gv → ℕ
kind gnil = 0
kind (gnum n) = 1
kind (gcons a b) = 2

-- a history is told from others by its tree
pub tree_tells : (x y : History) → tree_of x ≡ tree_of y → x ≡ y
tree_tells Done Done p = refl
tree_tells Done (AndRan e b r) p = let k = ap kind p in absurd cc
tree_tells Done (AndGot n s b q c r) p = let k = ap kind p in absurd cc
tree_tells (AndRan e b r) Done p = let k = ap kind p in absurd cc
tree_tells (AndRan e b r) (AndRan e' b' r') p =
    let es = event_code.inj e e' (ap (λ g. head (head g)) p) in
    let bs = bits_code.inj b b' (ap (λ g. tail (head g)) p) in
    let rs = tree_tells r r' (ap tail p) in
    ap (λ (z : Event). AndRan z b r) es ∙ (ap (λ (z : List Bool). AndRan e' z r) bs ∙ ap (AndRan e' b') rs)
tree_tells (AndRan e b r) (AndGot n s b' q c r') p = let k = ap (λ g. kind (head g)) p in absurd cc
tree_tells (AndGot n s b q c r) Done p = let k = ap kind p in absurd cc
tree_tells (AndGot n s b q c r) (AndRan e b' r') p = let k = ap (λ g. kind (head g)) p in absurd cc
tree_tells (AndGot n s b q c r) (AndGot n' s' b' q' c' r') p =
    let t = ap tail p in
    let t2 = ap tail t in
    let t3 = ap tail t2 in
    let t4 = ap tail t3 in
    ap (λ (z : ℕ). AndGot z s b q c r) (ap (λ g. number (head g)) p)
    ∙ (ap (λ (z : History). AndGot n' z b q c r) (tree_tells s s' (ap head t))
    ∙ (ap (λ (z : List Bool). AndGot n' s' z q c r) (bits_code.inj b b' (ap head t2))
    ∙ (ap (λ (z : ℕ). AndGot n' s' b' z c r) (ap (λ g. number (head g)) t3)
    ∙ (ap (λ (z : ℕ). AndGot n' s' b' q' z r) (ap (λ g. number (head g)) t4)
    ∙ ap (AndGot n' s' b' q' c') (tree_tells r r' (ap tail t4))))))

abbrev pub history_code : Coded History
history_code = record { code = tree_of; inj = tree_tells }
