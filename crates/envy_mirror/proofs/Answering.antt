-- A command on a pair, put together.
use Rattle.std.proofs.Common.{◌≡◌, ◌⊎◌, inl, inr, ℕ, ◌*◌, true, length, sym, ◌∙◌, ap, subst}
use Rattle.std.proofs.lemmas.Bool.{or_cases}
use Rattle.envy_array.specs.Array.{Array}
use Rattle.envy_array.specs.Step.{Command}
use Rattle.envy_base.specs.declared.shape.Shape.{Shape}
use Rattle.envy_meaning.proofs.Standing.{length-stands}
use Rattle.envy_memory.specs.Picture.{Picture}
use Rattle.envy_mirror.specs.Asking.{Answers, AsksBoth, TellsBoth, replied}
use Rattle.envy_mirror.specs.Mirroring.{Mirrors, Gives}
use Rattle.envy_mirror.specs.Pair.{Side, Pair, is_good, IsPair, lasting}
use Rattle.envy_mirror.specs.Replies.{Reply, marked}
use Rattle.envy_mirror.proofs.Giving.{Before, gives}
use Rattle.envy_mirror.proofs.Holding.{IsPair-reached, dark-reached}
use Rattle.envy_mirror.proofs.Telling.{IsOne, stands-good}

-- the words are those of the pages that have marks
pub long-mirrors : (p : Pair) (m : Array) → IsPair p → Mirrors p m → length m.words ≡ 32 * length p.stale
long-mirrors p m i h = at (or_cases (is_good p.first) (is_good p.second) h.some)
  where
    at : (is_good p.first ≡ true) ⊎ (is_good p.second ≡ true) → length m.words ≡ 32 * length p.stale
    at (inl good) =
        let s = stands-good p.first.standing p.first.memory.chart p.stale m good h.first in
        length-stands p.first.memory.chart m s ∙ ap (λ (n : ℕ). 32 * n) (sym i.marks)
    at (inr good) =
        let s = stands-good p.second.standing p.second.memory.chart p.stale m good h.second in
        length-stands p.second.memory.chart m s ∙ ap (λ (n : ℕ). 32 * n) (ap (λ (sh : Shape). sh.pages) i.shape ∙ sym i.marks)

-- a pair that mirrors an array is one before a call
pub Before-is : (p : Pair) (m : Array) → IsPair p → Mirrors p m → Before p m
Before-is p m i h = record { pair = i; mirrors = h; long = long-mirrors p m i h }

-- what became of both sides, whatever is said of the calls besides
pub asks-both : {T : Type 0} (reply : T → Reply) (Does : T → Picture → Picture → Type 0) (command : Command) (result : T) (first second new_first new_second : Side) → TellsBoth reply Does command result first second new_first new_second → AsksBoth command (reply result) first second new_first new_second
asks-both reply Does command result first second new_first new_second t = record {
  one = replied reply t.one;
  two = replied reply t.two;
  to_first = (t.to_first.0, t.to_first.1, t.to_first.3);
  to_second = (t.to_second.0, t.to_second.1, t.to_second.3);
  told = t.told;
}

-- a call made on both sides leaves a pair
pub IsPair-both : (old new : Pair) (command : Command) (reply : Reply) → IsPair old → AsksBoth command reply old.first old.second new.first new.second → new.stale ≡ marked command reply old.stale → new.last ≡ lasting old new → IsPair new
IsPair-both old new command reply i b stale last = IsPair-reached old new command b.one b.two reply i b.to_first b.to_second stale last

-- and gives what the array would
pub answers : (old new : Pair) (command : Command) (reply : Reply) → IsOne → IsPair old → AsksBoth command reply old.first old.second new.first new.second → new.stale ≡ marked command reply old.stale → new.last ≡ lasting old new → Answers command reply old new
answers old new command reply law i b stale last = record {
  both = b;
  stale = stale;
  last = last;
  step = λ m h. subst (λ (r : Reply). Gives m command r new) (sym b.told) (gives old new m command b.one b.two law (Before-is old m i h) b.to_first b.to_second (rw (← b.told) stale) last);
  off = dark-reached old new command b.one b.two reply b.to_first b.to_second b.told;
}
