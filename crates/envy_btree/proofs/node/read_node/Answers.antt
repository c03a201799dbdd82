use Rattle.std.proofs.Common.{◌+◌, ◌/◌, ◌%◌, ◌==◌, ◌∙◌, ap, ap₂, length, get_or}
use Rattle.envy_heap.specs.Pieces.{head, at}
use Rattle.envy_btree.specs.Tree.{window}
use Rattle.envy_array.proofs.Working.{Works-trans}
use Rattle.envy_btree.proofs.Exits.{none-if, err-power, head-within}
use Rattle.envy_btree.proofs.Exits.{mul-fits, head-fits, keys-fit, slots-fit, keys-read, slots-read, keys-read-few, slots-read-few}
use Rattle.envy_btree.proofs.node.read_node.Goals as goal

pub load-requires : goal.load-requires
load-requires g c = head-within c.args.piece (length (g.W.Words.sheet c.args.words.now).words) c.requires.within

pub returns-in_err-count-clause-works : goal.returns-in_err-count-clause-works
returns-in_err-count-clause-works g c = c.load.ensures.works

pub returns-in_err-count-clause-node : goal.returns-in_err-count-clause-node
returns-in_err-count-clause-node g c = none-if c.from_residual.result _ _ c.from_residual.ensures.1

pub returns-in_err-count-clause-same : goal.returns-in_err-count-clause-same
returns-in_err-count-clause-same g c = none-if c.from_residual.result _ _ c.from_residual.ensures.1

pub returns-in_err-count-clause-power : goal.returns-in_err-count-clause-power
returns-in_err-count-clause-power g c = err-power c.from_residual.result _ (g.W.Words.sheet c.load.new.self).on c.in_err-count.ensures.answer c.from_residual.ensures.1

pub returns-in_err-keys-clause-works : goal.returns-in_err-keys-clause-works
returns-in_err-keys-clause-works g c = Works-trans 0 0 (g.W.Words.sheet c.args.words.now) (g.W.Words.sheet c.load.new.self) (g.W.Words.sheet c.read_list.new.words) c.load.ensures.works c.read_list.ensures.works

pub returns-in_err-keys-clause-node : goal.returns-in_err-keys-clause-node
returns-in_err-keys-clause-node g c = none-if c.from_residual-in_err-keys.result _ _ c.from_residual-in_err-keys.ensures.1

pub returns-in_err-keys-clause-same : goal.returns-in_err-keys-clause-same
returns-in_err-keys-clause-same g c = none-if c.from_residual-in_err-keys.result _ _ c.from_residual-in_err-keys.ensures.1

pub returns-in_err-keys-clause-power : goal.returns-in_err-keys-clause-power
returns-in_err-keys-clause-power g c = err-power c.from_residual-in_err-keys.result _ (g.W.Words.sheet c.read_list.new.words).on c.in_err-keys.ensures.power c.from_residual-in_err-keys.ensures.1

pub returns-in_err-slots-clause-works : goal.returns-in_err-slots-clause-works
returns-in_err-slots-clause-works g c = Works-trans 0 0 (g.W.Words.sheet c.args.words.now) (g.W.Words.sheet c.read_list.new.words) (g.W.Words.sheet c.read_list-2.new.words) (Works-trans 0 0 (g.W.Words.sheet c.args.words.now) (g.W.Words.sheet c.load.new.self) (g.W.Words.sheet c.read_list.new.words) c.load.ensures.works c.read_list.ensures.works) c.read_list-2.ensures.works

pub returns-in_err-slots-clause-node : goal.returns-in_err-slots-clause-node
returns-in_err-slots-clause-node g c = none-if c.from_residual-in_err-slots.result _ _ c.from_residual-in_err-slots.ensures.1

pub returns-in_err-slots-clause-same : goal.returns-in_err-slots-clause-same
returns-in_err-slots-clause-same g c = none-if c.from_residual-in_err-slots.result _ _ c.from_residual-in_err-slots.ensures.1

pub returns-in_err-slots-clause-power : goal.returns-in_err-slots-clause-power
returns-in_err-slots-clause-power g c = err-power c.from_residual-in_err-slots.result _ (g.W.Words.sheet c.read_list-2.new.words).on c.in_err-slots.ensures.power c.from_residual-in_err-slots.ensures.1

pub returns-clause-works : goal.returns-clause-works
returns-clause-works g c = Works-trans 0 0 (g.W.Words.sheet c.args.words.now) (g.W.Words.sheet c.read_list.new.words) (g.W.Words.sheet c.read_list-2.new.words) (Works-trans 0 0 (g.W.Words.sheet c.args.words.now) (g.W.Words.sheet c.load.new.self) (g.W.Words.sheet c.read_list.new.words) c.load.ensures.works c.read_list.ensures.works) c.read_list-2.ensures.works

pub returns-clause-node : goal.returns-clause-node
returns-clause-node g c =
    let count = c.in_ok-count.ensures.answer in
    record {
      kind = ap (λ n. n % 2 == 1) count.1;
      front = c.in_ok-keys.ensures.list ∙ ap₂ (λ w n. window w (at c.args.piece 1) (n / 2)) count.2 count.1;
      back = c.in_ok-slots.ensures.list ∙ ap₂ (λ w n. window w (at c.args.piece 32) (n / 2 + n % 2)) (c.in_ok-keys.ensures.same ∙ count.2) count.1;
    }

pub returns-clause-same : goal.returns-clause-same
returns-clause-same g c = c.in_ok-slots.ensures.same ∙ (c.in_ok-keys.ensures.same ∙ c.in_ok-count.ensures.answer.2)

pub returns-clause-power : goal.returns-clause-power
returns-clause-power g c = c.in_ok-slots.ensures.power (c.in_ok-keys.ensures.power c.in_ok-count.ensures.answer.0)

pub overflow_mul-piece : goal.overflow_mul-piece
overflow_mul-piece g c = mul-fits c.args.piece (length (g.W.Words.sheet c.args.words.now).words) c.requires.within (g.met.W.Words.lawful c.args.words.now).few

pub overflow_add-piece : goal.overflow_add-piece
overflow_add-piece g c = head-fits c.args.piece (length (g.W.Words.sheet c.args.words.now).words) c.requires.within (g.met.W.Words.lawful c.args.words.now).few

pub overflow_mul-piece-2 : goal.overflow_mul-piece-2
overflow_mul-piece-2 g c = mul-fits c.args.piece (length (g.W.Words.sheet c.args.words.now).words) c.requires.within (g.met.W.Words.lawful c.args.words.now).few

pub overflow_add-piece-2 : goal.overflow_add-piece-2
overflow_add-piece-2 g c = head-fits c.args.piece (length (g.W.Words.sheet c.args.words.now).words) c.requires.within (g.met.W.Words.lawful c.args.words.now).few

pub overflow_add-piece-3 : goal.overflow_add-piece-3
overflow_add-piece-3 g c = keys-fit c.args.piece (length (g.W.Words.sheet c.args.words.now).words) c.requires.within (g.met.W.Words.lawful c.args.words.now).few

pub overflow_mul-piece-3 : goal.overflow_mul-piece-3
overflow_mul-piece-3 g c = mul-fits c.args.piece (length (g.W.Words.sheet c.args.words.now).words) c.requires.within (g.met.W.Words.lawful c.args.words.now).few

pub overflow_add-piece-4 : goal.overflow_add-piece-4
overflow_add-piece-4 g c = head-fits c.args.piece (length (g.W.Words.sheet c.args.words.now).words) c.requires.within (g.met.W.Words.lawful c.args.words.now).few

pub overflow_add-piece-5 : goal.overflow_add-piece-5
overflow_add-piece-5 g c = slots-fit c.args.piece (length (g.W.Words.sheet c.args.words.now).words) c.requires.within (g.met.W.Words.lawful c.args.words.now).few

pub read_list-requires-clause-few : goal.read_list-requires-clause-few
read_list-requires-clause-few g c = keys-read-few c.in_ok-count.count (get_or (g.W.Words.sheet c.args.words.now).words (head c.args.piece) 0) c.in_ok-count.ensures.answer.1 c.requires.few

pub read_list-requires-clause-within : goal.read_list-requires-clause-within
read_list-requires-clause-within g c = keys-read c.args.piece c.in_ok-count.count (get_or (g.W.Words.sheet c.args.words.now).words (head c.args.piece) 0) (g.W.Words.sheet c.args.words.now) (g.W.Words.sheet c.load.new.self) c.load.ensures.works c.requires.within c.in_ok-count.ensures.answer.1 c.requires.few

pub read_list-requires-2-clause-few : goal.read_list-requires-2-clause-few
read_list-requires-2-clause-few g c = slots-read-few c.in_ok-count.count (get_or (g.W.Words.sheet c.args.words.now).words (head c.args.piece) 0) c.in_ok-count.ensures.answer.1 c.requires.few

pub read_list-requires-2-clause-within : goal.read_list-requires-2-clause-within
read_list-requires-2-clause-within g c = slots-read c.args.piece c.in_ok-count.count (get_or (g.W.Words.sheet c.args.words.now).words (head c.args.piece) 0) (g.W.Words.sheet c.args.words.now) (g.W.Words.sheet c.read_list.new.words) (Works-trans 0 0 (g.W.Words.sheet c.args.words.now) (g.W.Words.sheet c.load.new.self) (g.W.Words.sheet c.read_list.new.words) c.load.ensures.works c.read_list.ensures.works) c.requires.within c.in_ok-count.ensures.answer.1 c.requires.few
