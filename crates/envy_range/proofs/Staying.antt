-- What stays outside a range, by what its view tells of the words beside it.
use Rattle.std.proofs.Common.{◌≡◌, ◌⊎◌, ℕ, ◌+◌, false, List, ◌++◌, length, drop, get_or, ap, sym, ◌∙◌, inl, inr}
use Rattle.envy_array.specs.Words.{Sheet, IsSheet, Works, Keeps}
use Rattle.envy_range.specs.Ranges.{outside, within, Stays}
use Rattle.envy_range.proofs.Lengths.{apart-sizes}

-- the words outside, by those beside the view
words-of : (first count : ℕ) (old new : Sheet) → IsSheet old → length new.words ≡ length old.words → ((within first count new).beside ≡ (within first count old).beside) ⊎ ((new.on ≡ false) × ((within first count new).beside ≡ (within first count old).kept_beside)) → (outside first count new.words ≡ outside first count old.words) ⊎ ((new.on ≡ false) × (outside first count new.words ≡ outside first count old.kept))
words-of first count old new law long (inl same) = inl (apart-sizes first count new.words new.beside old.words old.beside long same).0
words-of first count old new law long (inr gone) = inr (gone.0, (apart-sizes first count new.words new.beside old.kept old.kept_beside (long ∙ sym law.long) gone.1).0)

same-place : (first count k : ℕ) (old new : Sheet) → IsSheet old → IsSheet new → Works k (within first count old) (within first count new) → Stays first count old new
same-place first count k old new law then w =
    let long : length new.words ≡ length old.words = ap (λ (ns : List ℕ). get_or ns 2 0) w.fixed in
    record {
      long = long;
      kept = (apart-sizes first count new.kept new.kept_beside old.kept old.kept_beside (then.long ∙ long ∙ sym law.long) w.kept_beside).0;
      words = words-of first count old new law long w.beside;
    }

pub stays : (first count other size k : ℕ) (old new : Sheet) → IsSheet old → IsSheet new → Works k (within first count old) (within other size new) → (other ≡ first) × (size ≡ count) × Stays first count old new
stays first count other size k old new law then w =
    let begins : other ≡ first = ap (λ (ns : List ℕ). get_or ns 0 0) w.fixed in
    let counts : size ≡ count = ap (λ (ns : List ℕ). get_or ns 1 0) w.fixed in (
      begins,
      counts,
      same-place first count k old new law then (rw begins at rw counts at w),
    )

-- the same of calls that begin and end transactions, from where none is open
all-kept : (first count : ℕ) (s : Sheet) → IsSheet s → s.started ≡ false → (within first count s).beside ≡ (within first count s).kept_beside
all-kept first count s law shut = ap (λ (ws : List ℕ). outside first count ws ++ s.beside) (law.shut shut) ∙ ap (λ (ws : List ℕ). outside first count s.kept ++ ws) (law.shut_beside shut)

same-kept : (first count : ℕ) (old new : Sheet) → IsSheet old → IsSheet new → old.started ≡ false → Keeps (within first count old) (within first count new) → Stays first count old new × (outside first count new.words ≡ outside first count old.words)
same-kept first count old new law then shut k =
    let long : length new.words ≡ length old.words = ap (λ (ns : List ℕ). get_or ns 2 0) k.fixed in
    let both = k.beside (all-kept first count old law shut) in
    let words = (apart-sizes first count new.words new.beside old.words old.beside long both.0).0 in (
      record {
        long = long;
        kept = (apart-sizes first count new.kept new.kept_beside old.kept old.kept_beside (then.long ∙ long ∙ sym law.long) both.1).0;
        words = inl words;
      },
      words,
    )

pub stays-shut : (first count other size : ℕ) (old new : Sheet) → IsSheet old → IsSheet new → old.started ≡ false → Keeps (within first count old) (within other size new) → (other ≡ first) × (size ≡ count) × Stays first count old new × (outside first count new.words ≡ outside first count old.words)
stays-shut first count other size old new law then shut k =
    let begins : other ≡ first = ap (λ (ns : List ℕ). get_or ns 0 0) k.fixed in
    let counts : size ≡ count = ap (λ (ns : List ℕ). get_or ns 1 0) k.fixed in
    let same = same-kept first count old new law then shut (rw begins at rw counts at k) in (begins, counts, same.0, same.1)
