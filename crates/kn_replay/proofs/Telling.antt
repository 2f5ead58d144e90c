-- Alike nodes are told alike.
use Rattle.std.proofs.Common.{◌≡◌, ℕ, ◌+◌, Bool, cond, List, [], ◌∷◌, ◌++◌, fold, map, refl, ap, ◌∙◌}
use Rattle.std.specs.Prelude.{codes, decimal, flat_map}
use Rattle.kn_model.specs.Concrete.{Happened, events}
use Rattle.kn_model.specs.Nodes.{State, Node, Outcome}
use Rattle.kn_model.specs.Alikes.{AlikeRun}
use Rattle.kn_conc.specs.Views.{NodeView}
use Rattle.kn_report.specs.Texts.{numbered_from}
use Rattle.kn_replay.specs.Views.{states_in}
use Rattle.kn_replay.specs.Nodes.{AreNodes}
use Rattle.kn_replay.specs.Texts.{end_text, has_failed, head_text, is_failed, line_text, node_text, replay_text}
use Rattle.kn_replay.specs.Tellings.{TextTells, states_of}

same_line : (n : ℕ) (s t : State ℕ) → AlikeRun s t → node_text n s ≡ node_text n t
same_line n s t h = ap (λ (bits : List Bool). node_text n (record s { trace = bits })) h.trace ∙ ap (λ (o : Outcome). node_text n (record s { trace = t.trace; outcome = o })) h.outcome

-- the lines of the nodes from n on
same_lines : (i n : ℕ) (xs : List NodeView) (ys : List (Node ℕ)) → AreNodes i xs ys → numbered_from node_text n (states_in xs) ≡ numbered_from node_text n (map (λ (y : Node ℕ). y.state) ys)
same_lines i n [] [] h = refl
same_lines i n [] (y ∷ ys) h = absurd h
same_lines i n (x ∷ xs) [] h = absurd h
same_lines i n (x ∷ xs) (y ∷ ys) h =
    ap (λ (l : List ℕ). l ++ numbered_from node_text (n + 1) (states_in xs)) (same_line n x.state y.state h.0.alike)
    ∙ ap (λ (l : List ℕ). node_text n y.state ++ l) (same_lines (i + 1) (n + 1) xs ys h.1)

-- as many failed, whatever was counted before
same_folded : (i before : ℕ) (xs : List NodeView) (ys : List (Node ℕ)) → AreNodes i xs ys
    → fold (λ (n : ℕ) (s : State ℕ). n + cond (is_failed s) 1 0) before (states_in xs) ≡ fold (λ (n : ℕ) (s : State ℕ). n + cond (is_failed s) 1 0) before (map (λ (y : Node ℕ). y.state) ys)
same_folded i before [] [] h = refl
same_folded i before [] (y ∷ ys) h = absurd h
same_folded i before (x ∷ xs) [] h = absurd h
same_folded i before (x ∷ xs) (y ∷ ys) h =
    ap (λ (o : Outcome). fold (λ (n : ℕ) (s : State ℕ). n + cond (is_failed s) 1 0) (before + cond (has_failed o) 1 0) (states_in xs)) h.0.alike.outcome
    ∙ same_folded (i + 1) (before + cond (is_failed y.state) 1 0) xs ys h.1

pub text_tells : TextTells
text_tells net a run r =
    let ys = r.scenario.nodes in
    let lines = same_lines 0 0 run.nodes ys r.nodes.nodes in
    let failed = same_folded 0 0 run.nodes ys r.nodes.nodes in
    record {
      scenario = r.scenario;
      is = r.is;
      text = ap (λ (hs : List Happened). replay_text net hs (states_in run.nodes)) r.events
          ∙ (ap (λ (l : List ℕ). head_text net ++ (flat_map line_text (events net a) ++ (l ++ end_text (states_in run.nodes)))) lines
          ∙ ap (λ (count : ℕ). head_text net ++ (flat_map line_text (events net a) ++ (numbered_from node_text 0 (states_of r.scenario) ++ (codes "end failed " ++ (decimal count ++ codes "\n"))))) failed);
      failed = failed;
    }
