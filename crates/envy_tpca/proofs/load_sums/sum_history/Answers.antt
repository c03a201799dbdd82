use Rattle.std.proofs.Common.{refl, arith, ◌≡◌, ◌∙◌, ◌<◌, ◌+◌, ◌*◌, length, ap, sym, subst, w64}
use Rattle.std.specs.Int.{cast_signed}
use Rattle.std.specs.Prelude.{slice_index}
use Rattle.envy_map.specs.Fields.{Chart}
use Rattle.envy_soundness.specs.Words.{durable}
use Rattle.envy_tpca.specs.Summing.{signed_at}
use Rattle.envy_tpca.proofs.Loading.{loaded-none, loaded-more, loaded-chart, rests-same}
use Rattle.envy_tpca.proofs.Totals.{sum-step}
use Rattle.envy_tpca.proofs.load_sums.sum_history.Goals as goal

pub load_at-requires-clause-rests : goal.load_at-requires-clause-rests
load_at-requires-clause-rests g c = rests-same c.args.memory.now c.loop-k.memory (loaded-chart _ _ _ c.loop-k.invariant.loaded) c.requires.rests

pub load_at-requires-clause-within : goal.load_at-requires-clause-within
load_at-requires-clause-within g c =
    let le = c.requires.within in
    let lt : c.args.from + 4 * c.loop-k.k + 3 < length (durable c.args.memory.now.chart) = omega arith in
    subst (λ (ch : Chart). c.args.from + 4 * c.loop-k.k + 3 < length (durable ch)) (sym (loaded-chart _ _ _ c.loop-k.invariant.loaded)) lt

pub loop-k-init : goal.loop-k-init
loop-k-init g c = record { loaded = loaded-none c.args.memory.now; sum = refl }

pub loop-k-preserved : goal.loop-k-preserved
loop-k-preserved g c =
    let chart = loaded-chart _ _ _ c.loop-k.invariant.loaded in
    let word : c.cast_signed-sum.result ≡ signed_at (durable c.args.memory.now.chart) (c.args.from + 4 * c.loop-k.k + 3) = c.cast_signed-sum.ensures ∙ ap (cast_signed w64) (c.load_at.ensures.word ∙ ap (λ (ch : Chart). slice_index (durable ch) (c.args.from + 4 * c.loop-k.k + 3)) chart) in
    record {
      loaded = loaded-more c.loop-k.k 1 c.args.memory.now c.loop-k.memory c.load_at.new.memory c.loop-k.invariant.loaded c.load_at.ensures.loaded;
      sum = sum-step c.loop-k.sum-bits c.loop-k.k (cast_signed w64 c.loop-k.sum-bits) c.cast_signed-sum.result (λ k. signed_at (durable c.args.memory.now.chart) (c.args.from + 4 * k + 3)) (omega arith) refl c.loop-k.invariant.sum word
          (record { sfits = c.cast_signed-sum.type_inv }) (c.requires.small (c.loop-k.k + 1) (omega arith));
    }
