-- The scores of places, as the nodes of a winner tree.
use Rattle.std.proofs.Common.{◌≡◌, ◌≢◌, ℕ, ◌+◌, ◌*◌, ◌<◌, List, length, drop, get_or, set, ◌∙◌, sym, ap, arith}
use Rattle.std.proofs.lemmas.List.{length-map, length-drop, get_or-drop, drop-set-add, map-set, set-get_or, get_or-replicate, get_or-set_same, get_or-set_other}
use Rattle.std.proofs.Math.ListN.{get_or-map}
use Rattle.std.specs.Prelude.{map, replicate}
use Rattle.envy_space.specs.declared.nodes.Entry.{Entry}
use Rattle.envy_space.specs.Winners.{nobody, node, scores_of, late_scores}

abbrev score : Entry → ℕ
score e = e.score

pub score_at : (n k : ℕ) (nodes : List Entry) → get_or (scores_of n nodes) k 0 ≡ (node nodes (n + k)).score
score_at n k nodes = get_or-map score (drop n nodes) k nobody ∙ ap score (get_or-drop n nodes k nobody)

pub length-scores : (n : ℕ) (nodes : List Entry) → length nodes ≡ 2 * n → length (scores_of n nodes) ≡ n
length-scores n nodes long = length-map (drop n nodes) score ∙ length-drop n nodes ∙ omega arith

-- a place has another entry
pub scores-place : (n k : ℕ) (nodes : List Entry) (e : Entry) → scores_of n (set nodes (n + k) e) ≡ set (scores_of n nodes) k e.score
scores-place n k nodes e = ap (map score) (drop-set-add n nodes k e) ∙ map-set score (drop n nodes) k e

-- a score that is there
pub scores-same : (n k v : ℕ) (nodes : List Entry) → (node nodes (n + k)).score ≡ v → set (scores_of n nodes) k v ≡ scores_of n nodes
scores-same n k v nodes is = ap (set (scores_of n nodes) k) (sym is ∙ sym (score_at n k nodes)) ∙ set-get_or (scores_of n nodes) k 0

-- one score for all
pub replicate-set : (n k v : ℕ) → k < n → set (replicate n v) k v ≡ replicate n v
replicate-set n k v within = ap (set (replicate n v) k) (sym (get_or-replicate n k v 0 within)) ∙ set-get_or (replicate n v) k 0

-- the place whose score isn't in the nodes yet, and another
pub late-here : (n : ℕ) (nodes : List Entry) (late : Entry) → length nodes ≡ 2 * n → late.place < n → get_or (late_scores n nodes late) late.place 0 ≡ late.score
late-here n nodes late long within = get_or-set_same (scores_of n nodes) late.place late.score 0 (let all = length-scores n nodes long in omega arith)

pub late-other : (n k : ℕ) (nodes : List Entry) (late : Entry) → k ≢ late.place → get_or (late_scores n nodes late) k 0 ≡ (node nodes (n + k)).score
late-other n k nodes late apart = get_or-set_other (scores_of n nodes) late.place k late.score 0 apart ∙ score_at n k nodes
