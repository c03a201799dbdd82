use Rattle.std.proofs.Common.{◌≡◌, ◌≢◌, ℕ, ◌+◌, ◌-◌, ◌*◌, ◌/◌, ◌^◌, ◌<◌, ◌≤◌, ◌∙◌, List, ap, sym, subst, length, get_or, refl, arith}
use Rattle.envy_heap.specs.Pieces.{IsHeap, pieces}
use Rattle.envy_heap.proofs.Heaps.{zero-at}
use Rattle.envy_btree.specs.Index.{IsIndex}
use Rattle.envy_btree.proofs.Viewing.{Looks-refl, Looks-trans, load-looks}
use Rattle.envy_tree_check.specs.Faults.{Causes}
use Rattle.envy_tree_check.specs.Grown.{AreMarked, Dims, IsSeen}
use Rattle.envy_tree_check.specs.declared.fault.MapFault.{MapFault}
use Rattle.envy_tree_check.specs.declared.fault.MapFault.TheVariants.{Count, Lost, Many, Off, Short, Used}
use Rattle.envy_tree_check.proofs.Faulting.{err-dims, err-if}
use Rattle.envy_tree_check.proofs.Freeing.{free-few}
use Rattle.envy_tree_check.proofs.Verdicts.{cause-none}
use Rattle.envy_tree_check.proofs.Wholes.{index-seen, lost, miscounted}
use Rattle.envy_tree_check.proofs.verdict.check.Goals as goal

pub returns-then-size-lt-LEAST_WORDS-clause-looks : goal.returns-then-size-lt-LEAST_WORDS-clause-looks
returns-then-size-lt-LEAST_WORDS-clause-looks g c = Looks-refl _

pub returns-then-size-lt-LEAST_WORDS-clause-power : goal.returns-then-size-lt-LEAST_WORDS-clause-power
returns-then-size-lt-LEAST_WORDS-clause-power g c = λ long. absurd (omega (arith, c.size-size.ensures))

pub returns-then-size-lt-LEAST_WORDS-clause-causes : goal.returns-then-size-lt-LEAST_WORDS-clause-causes
returns-then-size-lt-LEAST_WORDS-clause-causes g c = omega (arith, c.size-size.ensures)

pub returns-then-size-lt-LEAST_WORDS-clause-none : goal.returns-then-size-lt-LEAST_WORDS-clause-none
returns-then-size-lt-LEAST_WORDS-clause-none g c =
    let cause : Causes (g.W.Words.sheet c.args.words.now).words Short = omega (arith, c.size-size.ensures) in
    cause-none (g.W.Words.sheet c.args.words.now).words Short c.requires.size cause

pub returns-then-used-pieces-clause-looks : goal.returns-then-used-pieces-clause-looks
returns-then-used-pieces-clause-looks g c = load-looks 2 _ _ c.load.result c.load.ensures.works c.load.ensures.spends c.load.ensures.answer

pub returns-then-used-pieces-clause-power : goal.returns-then-used-pieces-clause-power
returns-then-used-pieces-clause-power g c = λ long. c.in_ok-used.ensures.answer.0

pub returns-then-used-pieces-clause-causes : goal.returns-then-used-pieces-clause-causes
returns-then-used-pieces-clause-causes g c = omega (arith, c.size-size.ensures, c.in_ok-used.ensures.answer.1)

pub returns-then-used-pieces-clause-none : goal.returns-then-used-pieces-clause-none
returns-then-used-pieces-clause-none g c =
    let cause : Causes (g.W.Words.sheet c.args.words.now).words Used = omega (arith, c.size-size.ensures, c.in_ok-used.ensures.answer.1) in
    cause-none (g.W.Words.sheet c.args.words.now).words Used c.requires.size cause

pub returns-then-count-most-clause-looks : goal.returns-then-count-most-clause-looks
returns-then-count-most-clause-looks g c = Looks-trans _ _ _ (load-looks 2 _ _ c.load.result c.load.ensures.works c.load.ensures.spends c.load.ensures.answer) (load-looks 3 _ _ c.load-2.result c.load-2.ensures.works c.load-2.ensures.spends c.load-2.ensures.answer)

pub returns-then-count-most-clause-power : goal.returns-then-count-most-clause-power
returns-then-count-most-clause-power g c = λ long. c.in_ok-count.ensures.answer.0

pub returns-then-count-most-clause-causes : goal.returns-then-count-most-clause-causes
returns-then-count-most-clause-causes g c = omega (arith, c.size-size.ensures, c.in_ok-count.ensures.answer.1, ap (λ w. get_or w 3 0) c.in_ok-used.ensures.answer.2)

pub returns-then-count-most-clause-none : goal.returns-then-count-most-clause-none
returns-then-count-most-clause-none g c =
    let cause : Causes (g.W.Words.sheet c.args.words.now).words Many = omega (arith, c.size-size.ensures, c.in_ok-count.ensures.answer.1, ap (λ w. get_or w 3 0) c.in_ok-used.ensures.answer.2) in
    cause-none (g.W.Words.sheet c.args.words.now).words Many c.requires.size cause

pub returns-in_err-used-clause-looks : goal.returns-in_err-used-clause-looks
returns-in_err-used-clause-looks g c = load-looks 2 _ _ c.load.result c.load.ensures.works c.load.ensures.spends c.load.ensures.answer

pub returns-in_err-used-clause-power : goal.returns-in_err-used-clause-power
returns-in_err-used-clause-power g c = err-dims _ c.from_residual.result Off _ c.from_residual.ensures.1 c.in_err-used.ensures.answer

pub returns-in_err-used-clause-causes : goal.returns-in_err-used-clause-causes
returns-in_err-used-clause-causes g c = err-if _ c.from_residual.result Off c.from_residual.ensures.1 tt

pub returns-in_err-used-clause-none : goal.returns-in_err-used-clause-none
returns-in_err-used-clause-none g c = err-if _ c.from_residual.result Off c.from_residual.ensures.1 (λ ne. absurd (ne refl))

pub returns-in_err-count-clause-looks : goal.returns-in_err-count-clause-looks
returns-in_err-count-clause-looks g c = Looks-trans _ _ _ (load-looks 2 _ _ c.load.result c.load.ensures.works c.load.ensures.spends c.load.ensures.answer) (load-looks 3 _ _ c.load-2.result c.load-2.ensures.works c.load-2.ensures.spends c.load-2.ensures.answer)

pub returns-in_err-count-clause-power : goal.returns-in_err-count-clause-power
returns-in_err-count-clause-power g c = err-dims _ c.from_residual-in_err-count.result Off _ c.from_residual-in_err-count.ensures.1 c.in_err-count.ensures.answer

pub returns-in_err-count-clause-causes : goal.returns-in_err-count-clause-causes
returns-in_err-count-clause-causes g c = err-if _ c.from_residual-in_err-count.result Off c.from_residual-in_err-count.ensures.1 tt

pub returns-in_err-count-clause-none : goal.returns-in_err-count-clause-none
returns-in_err-count-clause-none g c = err-if _ c.from_residual-in_err-count.result Off c.from_residual-in_err-count.ensures.1 (λ ne. absurd (ne refl))

pub free_of-requires : goal.free_of-requires
free_of-requires g c =
    let ws = (g.W.Words.sheet c.args.words.now).words in
    let same2 = c.in_ok-count.ensures.answer.2 ∙ c.in_ok-used.ensures.answer.2 in
    record {
      size = subst (λ w. 640 ≤ length w) (sym same2) (omega (arith, c.size-size.ensures));
      used = c.in_ok-used.ensures.answer.1 ∙ ap (λ w. get_or w 2 0) (sym same2);
      most = subst (λ w. c.in_ok-used.used ≤ pieces w) (sym same2) (omega (arith, c.size-size.ensures));
      long = refl;
      blank = λ i. zero-at 64 i;
    }

pub returns-in_err-free-clause-looks : goal.returns-in_err-free-clause-looks
returns-in_err-free-clause-looks g c = Looks-trans _ _ _ (Looks-trans _ _ _ (load-looks 2 _ _ c.load.result c.load.ensures.works c.load.ensures.spends c.load.ensures.answer) (load-looks 3 _ _ c.load-2.result c.load-2.ensures.works c.load-2.ensures.spends c.load-2.ensures.answer)) c.free_of.ensures.looks

pub returns-in_err-free-clause-power : goal.returns-in_err-free-clause-power
returns-in_err-free-clause-power g c =
    let ws = (g.W.Words.sheet c.args.words.now).words in
    let same2 = c.in_ok-count.ensures.answer.2 ∙ c.in_ok-used.ensures.answer.2 in
    err-dims ws c.from_residual-in_err-free.result c.in_err-free.field-0.0 _ c.from_residual-in_err-free.ensures.1 (subst (λ w. Dims w c.in_err-free.field-0.0 (g.W.Words.sheet c.free_of.new.words)) same2 c.in_err-free.ensures.power)

pub returns-in_err-free-clause-causes : goal.returns-in_err-free-clause-causes
returns-in_err-free-clause-causes g c =
    let ws = (g.W.Words.sheet c.args.words.now).words in
    let same2 = c.in_ok-count.ensures.answer.2 ∙ c.in_ok-used.ensures.answer.2 in
    err-if (λ e. Causes ws e) c.from_residual-in_err-free.result c.in_err-free.field-0.0 c.from_residual-in_err-free.ensures.1 (subst (λ w. Causes w c.in_err-free.field-0.0) same2 c.in_err-free.ensures.causes)

pub returns-in_err-free-clause-none : goal.returns-in_err-free-clause-none
returns-in_err-free-clause-none g c =
    let ws = (g.W.Words.sheet c.args.words.now).words in
    let same2 = c.in_ok-count.ensures.answer.2 ∙ c.in_ok-used.ensures.answer.2 in
    err-if (λ e. e ≢ Off → (es : List (ℕ × ℕ)) → IsIndex ws es → ⊥) c.from_residual-in_err-free.result c.in_err-free.field-0.0 c.from_residual-in_err-free.ensures.1 (cause-none ws c.in_err-free.field-0.0 c.requires.size (subst (λ w. Causes w c.in_err-free.field-0.0) same2 c.in_err-free.ensures.causes))

pub check_tree-requires : goal.check_tree-requires
check_tree-requires g c =
    let ws = (g.W.Words.sheet c.args.words.now).words in
    let same2 = c.in_ok-count.ensures.answer.2 ∙ c.in_ok-used.ensures.answer.2 in
    let same3 = (c.free_of.ensures.looks.same c.in_ok-free.ensures.power).0 ∙ c.in_ok-count.ensures.answer.2 ∙ c.in_ok-used.ensures.answer.2 in
    record {
      size = subst (λ w. 640 ≤ length w) (sym same3) (omega (arith, c.size-size.ensures));
      used = c.in_ok-used.ensures.answer.1 ∙ ap (λ w. get_or w 2 0) (sym same3);
      most = subst (λ w. c.in_ok-used.used ≤ pieces w) (sym same3) (omega (arith, c.size-size.ensures));
      long = (c.in_ok-free.ensures.free.3).long;
    }

pub returns-in_err-tally-clause-looks : goal.returns-in_err-tally-clause-looks
returns-in_err-tally-clause-looks g c = Looks-trans _ _ _ (Looks-trans _ _ _ (Looks-trans _ _ _ (load-looks 2 _ _ c.load.result c.load.ensures.works c.load.ensures.spends c.load.ensures.answer) (load-looks 3 _ _ c.load-2.result c.load-2.ensures.works c.load-2.ensures.spends c.load-2.ensures.answer)) c.free_of.ensures.looks) c.check_tree.ensures.looks

pub returns-in_err-tally-clause-power : goal.returns-in_err-tally-clause-power
returns-in_err-tally-clause-power g c =
    let ws = (g.W.Words.sheet c.args.words.now).words in
    let same2 = c.in_ok-count.ensures.answer.2 ∙ c.in_ok-used.ensures.answer.2 in
    let same3 = (c.free_of.ensures.looks.same c.in_ok-free.ensures.power).0 ∙ c.in_ok-count.ensures.answer.2 ∙ c.in_ok-used.ensures.answer.2 in
    let f = c.in_ok-free.ensures.free in
    let heap : IsHeap ws f.0 = subst (λ w. IsHeap w f.0) same2 f.1 in
    let marks = subst (λ w. AreMarked w f.0 c.free_of.new.marks) same2 f.3 in
    let heap3 = subst (λ w. IsHeap w f.0) (sym ((c.free_of.ensures.looks.same c.in_ok-free.ensures.power).0 ∙ c.in_ok-count.ensures.answer.2 ∙ c.in_ok-used.ensures.answer.2)) heap in
    let marks3 = subst (λ w. AreMarked w f.0 c.free_of.new.marks) (sym ((c.free_of.ensures.looks.same c.in_ok-free.ensures.power).0 ∙ c.in_ok-count.ensures.answer.2 ∙ c.in_ok-used.ensures.answer.2)) marks in
    err-dims ws c.from_residual-in_err-tally.result c.in_err-tally.field-0.0 _ c.from_residual-in_err-tally.ensures.1 (subst (λ w. Dims w c.in_err-tally.field-0.0 (g.W.Words.sheet c.check_tree.new.words)) same3 c.in_err-tally.ensures.power)

pub returns-in_err-tally-clause-causes : goal.returns-in_err-tally-clause-causes
returns-in_err-tally-clause-causes g c =
    let ws = (g.W.Words.sheet c.args.words.now).words in
    let same2 = c.in_ok-count.ensures.answer.2 ∙ c.in_ok-used.ensures.answer.2 in
    let same3 = (c.free_of.ensures.looks.same c.in_ok-free.ensures.power).0 ∙ c.in_ok-count.ensures.answer.2 ∙ c.in_ok-used.ensures.answer.2 in
    let f = c.in_ok-free.ensures.free in
    let heap : IsHeap ws f.0 = subst (λ w. IsHeap w f.0) same2 f.1 in
    let marks = subst (λ w. AreMarked w f.0 c.free_of.new.marks) same2 f.3 in
    let heap3 = subst (λ w. IsHeap w f.0) (sym ((c.free_of.ensures.looks.same c.in_ok-free.ensures.power).0 ∙ c.in_ok-count.ensures.answer.2 ∙ c.in_ok-used.ensures.answer.2)) heap in
    let marks3 = subst (λ w. AreMarked w f.0 c.free_of.new.marks) (sym ((c.free_of.ensures.looks.same c.in_ok-free.ensures.power).0 ∙ c.in_ok-count.ensures.answer.2 ∙ c.in_ok-used.ensures.answer.2)) marks in
    err-if (λ e. Causes ws e) c.from_residual-in_err-tally.result c.in_err-tally.field-0.0 c.from_residual-in_err-tally.ensures.1 (subst (λ w. Causes w c.in_err-tally.field-0.0) same3 (c.in_err-tally.ensures.causes f.0 heap3 marks3))

pub returns-in_err-tally-clause-none : goal.returns-in_err-tally-clause-none
returns-in_err-tally-clause-none g c =
    let ws = (g.W.Words.sheet c.args.words.now).words in
    let same2 = c.in_ok-count.ensures.answer.2 ∙ c.in_ok-used.ensures.answer.2 in
    let same3 = (c.free_of.ensures.looks.same c.in_ok-free.ensures.power).0 ∙ c.in_ok-count.ensures.answer.2 ∙ c.in_ok-used.ensures.answer.2 in
    let f = c.in_ok-free.ensures.free in
    let heap : IsHeap ws f.0 = subst (λ w. IsHeap w f.0) same2 f.1 in
    let marks = subst (λ w. AreMarked w f.0 c.free_of.new.marks) same2 f.3 in
    let heap3 = subst (λ w. IsHeap w f.0) (sym ((c.free_of.ensures.looks.same c.in_ok-free.ensures.power).0 ∙ c.in_ok-count.ensures.answer.2 ∙ c.in_ok-used.ensures.answer.2)) heap in
    let marks3 = subst (λ w. AreMarked w f.0 c.free_of.new.marks) (sym ((c.free_of.ensures.looks.same c.in_ok-free.ensures.power).0 ∙ c.in_ok-count.ensures.answer.2 ∙ c.in_ok-used.ensures.answer.2)) marks in
    err-if (λ e. e ≢ Off → (es : List (ℕ × ℕ)) → IsIndex ws es → ⊥) c.from_residual-in_err-tally.result c.in_err-tally.field-0.0 c.from_residual-in_err-tally.ensures.1 (cause-none ws c.in_err-tally.field-0.0 c.requires.size (subst (λ w. Causes w c.in_err-tally.field-0.0) same3 (c.in_err-tally.ensures.causes f.0 heap3 marks3)))

pub returns-then-tally-handed-clause-looks : goal.returns-then-tally-handed-clause-looks
returns-then-tally-handed-clause-looks g c = Looks-trans _ _ _ (Looks-trans _ _ _ (Looks-trans _ _ _ (load-looks 2 _ _ c.load.result c.load.ensures.works c.load.ensures.spends c.load.ensures.answer) (load-looks 3 _ _ c.load-2.result c.load-2.ensures.works c.load-2.ensures.spends c.load-2.ensures.answer)) c.free_of.ensures.looks) c.check_tree.ensures.looks

pub returns-then-tally-handed-clause-power : goal.returns-then-tally-handed-clause-power
returns-then-tally-handed-clause-power g c = λ long. c.in_ok-tally.ensures.power

pub returns-then-tally-handed-clause-causes : goal.returns-then-tally-handed-clause-causes
returns-then-tally-handed-clause-causes g c =
    let ws = (g.W.Words.sheet c.args.words.now).words in
    let same2 = c.in_ok-count.ensures.answer.2 ∙ c.in_ok-used.ensures.answer.2 in
    let same3 = (c.free_of.ensures.looks.same c.in_ok-free.ensures.power).0 ∙ c.in_ok-count.ensures.answer.2 ∙ c.in_ok-used.ensures.answer.2 in
    let f = c.in_ok-free.ensures.free in
    let heap : IsHeap ws f.0 = subst (λ w. IsHeap w f.0) same2 f.1 in
    let marks = subst (λ w. AreMarked w f.0 c.free_of.new.marks) same2 f.3 in
    let heap3 = subst (λ w. IsHeap w f.0) (sym ((c.free_of.ensures.looks.same c.in_ok-free.ensures.power).0 ∙ c.in_ok-count.ensures.answer.2 ∙ c.in_ok-used.ensures.answer.2)) heap in
    let marks3 = subst (λ w. AreMarked w f.0 c.free_of.new.marks) (sym ((c.free_of.ensures.looks.same c.in_ok-free.ensures.power).0 ∙ c.in_ok-count.ensures.answer.2 ∙ c.in_ok-used.ensures.answer.2)) marks in
    let seen = subst (λ w. IsSeen w f.0 c.in_ok-tally.tally.nodes c.in_ok-tally.tally.pairs) same3 (c.in_ok-tally.ensures.seen f.0 heap3 marks3) in
    let small : length ws < 2 ^ 32 = omega arith in
    lost ws f.0 c.in_ok-tally.tally.nodes c.in_ok-tally.tally.pairs heap small seen (λ e. absurd (omega (arith, f.2, c.in_ok-used.ensures.answer.1)))

pub returns-then-tally-handed-clause-none : goal.returns-then-tally-handed-clause-none
returns-then-tally-handed-clause-none g c =
    let cause : Causes (g.W.Words.sheet c.args.words.now).words Lost =
    let ws = (g.W.Words.sheet c.args.words.now).words in
    let same2 = c.in_ok-count.ensures.answer.2 ∙ c.in_ok-used.ensures.answer.2 in
    let same3 = (c.free_of.ensures.looks.same c.in_ok-free.ensures.power).0 ∙ c.in_ok-count.ensures.answer.2 ∙ c.in_ok-used.ensures.answer.2 in
    let f = c.in_ok-free.ensures.free in
    let heap : IsHeap ws f.0 = subst (λ w. IsHeap w f.0) same2 f.1 in
    let marks = subst (λ w. AreMarked w f.0 c.free_of.new.marks) same2 f.3 in
    let heap3 = subst (λ w. IsHeap w f.0) (sym ((c.free_of.ensures.looks.same c.in_ok-free.ensures.power).0 ∙ c.in_ok-count.ensures.answer.2 ∙ c.in_ok-used.ensures.answer.2)) heap in
    let marks3 = subst (λ w. AreMarked w f.0 c.free_of.new.marks) (sym ((c.free_of.ensures.looks.same c.in_ok-free.ensures.power).0 ∙ c.in_ok-count.ensures.answer.2 ∙ c.in_ok-used.ensures.answer.2)) marks in
    let seen = subst (λ w. IsSeen w f.0 c.in_ok-tally.tally.nodes c.in_ok-tally.tally.pairs) same3 (c.in_ok-tally.ensures.seen f.0 heap3 marks3) in
    let small : length ws < 2 ^ 32 = omega arith in
    lost ws f.0 c.in_ok-tally.tally.nodes c.in_ok-tally.tally.pairs heap small seen (λ e. absurd (omega (arith, f.2, c.in_ok-used.ensures.answer.1))) in
    cause-none (g.W.Words.sheet c.args.words.now).words Lost c.requires.size cause

pub returns-then-tally-count-clause-looks : goal.returns-then-tally-count-clause-looks
returns-then-tally-count-clause-looks g c = Looks-trans _ _ _ (Looks-trans _ _ _ (Looks-trans _ _ _ (load-looks 2 _ _ c.load.result c.load.ensures.works c.load.ensures.spends c.load.ensures.answer) (load-looks 3 _ _ c.load-2.result c.load-2.ensures.works c.load-2.ensures.spends c.load-2.ensures.answer)) c.free_of.ensures.looks) c.check_tree.ensures.looks

pub returns-then-tally-count-clause-power : goal.returns-then-tally-count-clause-power
returns-then-tally-count-clause-power g c = λ long. c.in_ok-tally.ensures.power

pub returns-then-tally-count-clause-causes : goal.returns-then-tally-count-clause-causes
returns-then-tally-count-clause-causes g c =
    let ws = (g.W.Words.sheet c.args.words.now).words in
    let same2 = c.in_ok-count.ensures.answer.2 ∙ c.in_ok-used.ensures.answer.2 in
    let same3 = (c.free_of.ensures.looks.same c.in_ok-free.ensures.power).0 ∙ c.in_ok-count.ensures.answer.2 ∙ c.in_ok-used.ensures.answer.2 in
    let f = c.in_ok-free.ensures.free in
    let heap : IsHeap ws f.0 = subst (λ w. IsHeap w f.0) same2 f.1 in
    let marks = subst (λ w. AreMarked w f.0 c.free_of.new.marks) same2 f.3 in
    let heap3 = subst (λ w. IsHeap w f.0) (sym ((c.free_of.ensures.looks.same c.in_ok-free.ensures.power).0 ∙ c.in_ok-count.ensures.answer.2 ∙ c.in_ok-used.ensures.answer.2)) heap in
    let marks3 = subst (λ w. AreMarked w f.0 c.free_of.new.marks) (sym ((c.free_of.ensures.looks.same c.in_ok-free.ensures.power).0 ∙ c.in_ok-count.ensures.answer.2 ∙ c.in_ok-used.ensures.answer.2)) marks in
    let seen = subst (λ w. IsSeen w f.0 c.in_ok-tally.tally.nodes c.in_ok-tally.tally.pairs) same3 (c.in_ok-tally.ensures.seen f.0 heap3 marks3) in
    let small : length ws < 2 ^ 32 = omega arith in
    let nodes : c.in_ok-tally.tally.nodes ≡ get_or ws 2 0 - length f.0 = omega (arith, f.2, c.in_ok-used.ensures.answer.1) in
    miscounted ws f.0 c.in_ok-tally.tally.nodes c.in_ok-tally.tally.pairs heap small seen nodes (λ e. absurd (omega (arith, c.in_ok-count.ensures.answer.1, ap (λ w. get_or w 3 0) c.in_ok-used.ensures.answer.2))) (omega (arith, c.size-size.ensures, c.in_ok-count.ensures.answer.1, ap (λ w. get_or w 3 0) c.in_ok-used.ensures.answer.2))

pub returns-then-tally-count-clause-none : goal.returns-then-tally-count-clause-none
returns-then-tally-count-clause-none g c =
    let cause : Causes (g.W.Words.sheet c.args.words.now).words Count =
    let ws = (g.W.Words.sheet c.args.words.now).words in
    let same2 = c.in_ok-count.ensures.answer.2 ∙ c.in_ok-used.ensures.answer.2 in
    let same3 = (c.free_of.ensures.looks.same c.in_ok-free.ensures.power).0 ∙ c.in_ok-count.ensures.answer.2 ∙ c.in_ok-used.ensures.answer.2 in
    let f = c.in_ok-free.ensures.free in
    let heap : IsHeap ws f.0 = subst (λ w. IsHeap w f.0) same2 f.1 in
    let marks = subst (λ w. AreMarked w f.0 c.free_of.new.marks) same2 f.3 in
    let heap3 = subst (λ w. IsHeap w f.0) (sym ((c.free_of.ensures.looks.same c.in_ok-free.ensures.power).0 ∙ c.in_ok-count.ensures.answer.2 ∙ c.in_ok-used.ensures.answer.2)) heap in
    let marks3 = subst (λ w. AreMarked w f.0 c.free_of.new.marks) (sym ((c.free_of.ensures.looks.same c.in_ok-free.ensures.power).0 ∙ c.in_ok-count.ensures.answer.2 ∙ c.in_ok-used.ensures.answer.2)) marks in
    let seen = subst (λ w. IsSeen w f.0 c.in_ok-tally.tally.nodes c.in_ok-tally.tally.pairs) same3 (c.in_ok-tally.ensures.seen f.0 heap3 marks3) in
    let small : length ws < 2 ^ 32 = omega arith in
    let nodes : c.in_ok-tally.tally.nodes ≡ get_or ws 2 0 - length f.0 = omega (arith, f.2, c.in_ok-used.ensures.answer.1) in
    miscounted ws f.0 c.in_ok-tally.tally.nodes c.in_ok-tally.tally.pairs heap small seen nodes (λ e. absurd (omega (arith, c.in_ok-count.ensures.answer.1, ap (λ w. get_or w 3 0) c.in_ok-used.ensures.answer.2))) (omega (arith, c.size-size.ensures, c.in_ok-count.ensures.answer.1, ap (λ w. get_or w 3 0) c.in_ok-used.ensures.answer.2)) in
    cause-none (g.W.Words.sheet c.args.words.now).words Count c.requires.size cause

pub returns-clause-looks : goal.returns-clause-looks
returns-clause-looks g c = Looks-trans _ _ _ (Looks-trans _ _ _ (Looks-trans _ _ _ (load-looks 2 _ _ c.load.result c.load.ensures.works c.load.ensures.spends c.load.ensures.answer) (load-looks 3 _ _ c.load-2.result c.load-2.ensures.works c.load-2.ensures.spends c.load-2.ensures.answer)) c.free_of.ensures.looks) c.check_tree.ensures.looks

pub returns-clause-stands : goal.returns-clause-stands
returns-clause-stands g c =
    let ws = (g.W.Words.sheet c.args.words.now).words in
    let same2 = c.in_ok-count.ensures.answer.2 ∙ c.in_ok-used.ensures.answer.2 in
    let same3 = (c.free_of.ensures.looks.same c.in_ok-free.ensures.power).0 ∙ c.in_ok-count.ensures.answer.2 ∙ c.in_ok-used.ensures.answer.2 in
    let f = c.in_ok-free.ensures.free in
    let heap : IsHeap ws f.0 = subst (λ w. IsHeap w f.0) same2 f.1 in
    let marks = subst (λ w. AreMarked w f.0 c.free_of.new.marks) same2 f.3 in
    let heap3 = subst (λ w. IsHeap w f.0) (sym ((c.free_of.ensures.looks.same c.in_ok-free.ensures.power).0 ∙ c.in_ok-count.ensures.answer.2 ∙ c.in_ok-used.ensures.answer.2)) heap in
    let marks3 = subst (λ w. AreMarked w f.0 c.free_of.new.marks) (sym ((c.free_of.ensures.looks.same c.in_ok-free.ensures.power).0 ∙ c.in_ok-count.ensures.answer.2 ∙ c.in_ok-used.ensures.answer.2)) marks in
    let seen = subst (λ w. IsSeen w f.0 c.in_ok-tally.tally.nodes c.in_ok-tally.tally.pairs) same3 (c.in_ok-tally.ensures.seen f.0 heap3 marks3) in
    let small : length ws < 2 ^ 32 = omega arith in
    let nodes : c.in_ok-tally.tally.nodes ≡ get_or ws 2 0 - length f.0 = omega (arith, f.2, c.in_ok-used.ensures.answer.1) in
    index-seen ws f.0 c.in_ok-tally.tally.nodes c.in_ok-tally.tally.pairs heap small seen nodes (omega (arith, c.in_ok-count.ensures.answer.1, ap (λ w. get_or w 3 0) c.in_ok-used.ensures.answer.2)) (omega (arith, c.size-size.ensures, c.in_ok-count.ensures.answer.1, ap (λ w. get_or w 3 0) c.in_ok-used.ensures.answer.2))

pub overflow_sub-handed : goal.overflow_sub-handed
overflow_sub-handed g c =
    let ws = (g.W.Words.sheet c.args.words.now).words in
    let same2 = c.in_ok-count.ensures.answer.2 ∙ c.in_ok-used.ensures.answer.2 in
    let f = c.in_ok-free.ensures.free in
    let heap : IsHeap ws f.0 = subst (λ w. IsHeap w f.0) same2 f.1 in
    omega (arith, free-few ws f.0 heap, f.2, c.in_ok-used.ensures.answer.1)
