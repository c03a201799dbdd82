-- What a pair stands for once a command went to each Good side, by the replies.
use Rattle.std.proofs.Common.{◌≡◌, ◌⊎◌, inl, inr, ◌*◌, Bool, true, false, List, length, Option, None, Some, refl, sym, ◌∙◌, ap, subst}
use Rattle.std.proofs.lemmas.Bool.{cases_Bool}
use Rattle.envy_array.specs.Array.{Array}
use Rattle.envy_array.specs.Step.{Command, Load, Look, Store, Begin, Put, Commit, Abort, Tick, Answer, Word, Started, Done, Range, Held, Closed, Full, Busy, Step}
use Rattle.envy_meaning.specs.Stands.{Stands}
use Rattle.envy_mirror.specs.Asking.{Reaches, heard, is_moving}
use Rattle.envy_mirror.specs.Mirroring.{Mirrors, Gives, Trails}
use Rattle.envy_mirror.specs.Pair.{Side, Pair, is_good, IsPair, IsDark, lasting}
use Rattle.envy_mirror.specs.Replies.{Reply, Off, Bad, Said, marked}
use Rattle.envy_mirror.specs.declared.standing.Standing.TheVariants.{Gone}
use Rattle.envy_mirror.specs.declared.standing.Which.TheVariants.{First, Second}
use Rattle.envy_mirror.proofs.Trailing.{Trails-step}
use Rattle.envy_mirror.proofs.Telling.{IsOne, Told, good-is, gone-is, agrees-good, agrees-gone, either-left, either-right, neither, mirrors, only-first, only-second, lost-at, lasting-one, reach-off, reach-said, reach-bad, reach-spoiled, reach-none, reach-carried, length-marked}

-- ---- a pair of which one side was asked

-- what is known before: the pair stood for m, and the marks are as many as its pages
pub record Before (old : Pair) (m : Array) : Type 0 where
  pub pair : IsPair old
  pub mirrors : Mirrors old m
  pub long : length m.words ≡ 32 * length old.stale

carry : (old : Pair) (m n : Array) (command : Command) (answer : Answer) (s : Side) → Before old m → Step m command answer n → Trails s.memory.chart old.stale m → Trails s.memory.chart (marked command (Said answer) old.stale) n
carry old m n command answer s b step = Trails-step s.memory.chart old.stale m n command answer b.long step (length-marked command (Said answer) old.stale)

said-alone : (old new : Pair) (m : Array) (command : Command) (answer : Answer) → Before old m → Reaches command None (Some (Said answer)) old.first new.first → Reaches command (Some (Said answer)) None old.second new.second → new.stale ≡ marked command (Said answer) old.stale → Gives m command (Said answer) new
said-alone old new m command answer b first second stale =
    let t = reach-said command None answer old.first new.first old.stale m first (Mirrors.first b.mirrors) in
    let left = marked command (Said answer) old.stale in (
      t.0,
      t.1,
      mirrors new t.0 left stale (either-left (is_good new.first) (is_good new.second) (good-is new.first (Told.good t.2)))
          (agrees-good new.first left t.0 (Told.good t.2) (Told.stands t.2))
          (reach-carried command (Some (Said answer)) old.second new.second old.stale left m t.0 second (carry old m t.0 command answer old.second b t.1) (Mirrors.second b.mirrors)),
    )

said-other : (old new : Pair) (m : Array) (command : Command) (answer : Answer) → Before old m → Reaches command (Some (Said answer)) None old.first new.first → Reaches command None (Some (Said answer)) old.second new.second → new.stale ≡ marked command (Said answer) old.stale → Gives m command (Said answer) new
said-other old new m command answer b first second stale =
    let t = reach-said command None answer old.second new.second old.stale m second (Mirrors.second b.mirrors) in
    let left = marked command (Said answer) old.stale in (
      t.0,
      t.1,
      mirrors new t.0 left stale (either-right (is_good new.first) (is_good new.second) (good-is new.second (Told.good t.2)))
          (reach-carried command (Some (Said answer)) old.first new.first old.stale left m t.0 first (carry old m t.0 command answer old.first b t.1) (Mirrors.first b.mirrors))
          (agrees-good new.second left t.0 (Told.good t.2) (Told.stands t.2)),
    )

-- one side was answered, and the other is Gone
said-first : (old new : Pair) (m : Array) (command : Command) (answer : Answer) (other : Option Reply) → Before old m → Reaches command other (Some (Said answer)) old.first new.first → new.second.standing ≡ Gone → new.stale ≡ marked command (Said answer) old.stale → Gives m command (Said answer) new
said-first old new m command answer other b first gone stale =
    let t = reach-said command other answer old.first new.first old.stale m first (Mirrors.first b.mirrors) in
    let left = marked command (Said answer) old.stale in (
      t.0,
      t.1,
      mirrors new t.0 left stale (either-left (is_good new.first) (is_good new.second) (good-is new.first (Told.good t.2)))
          (agrees-good new.first left t.0 (Told.good t.2) (Told.stands t.2))
          (agrees-gone new.second left t.0 gone),
    )

said-second : (old new : Pair) (m : Array) (command : Command) (answer : Answer) (other : Option Reply) → Before old m → Reaches command other (Some (Said answer)) old.second new.second → new.first.standing ≡ Gone → new.stale ≡ marked command (Said answer) old.stale → Gives m command (Said answer) new
said-second old new m command answer other b second gone stale =
    let t = reach-said command other answer old.second new.second old.stale m second (Mirrors.second b.mirrors) in
    let left = marked command (Said answer) old.stale in (
      t.0,
      t.1,
      mirrors new t.0 left stale (either-right (is_good new.first) (is_good new.second) (good-is new.second (Told.good t.2)))
          (agrees-gone new.first left t.0 gone)
          (agrees-good new.second left t.0 (Told.good t.2) (Told.stands t.2)),
    )

-- both were answered, and made the same step
said-both : (old new : Pair) (m : Array) (command : Command) (x y : Answer) → IsOne → Before old m → Reaches command (Some (Said y)) (Some (Said x)) old.first new.first → Reaches command (Some (Said x)) (Some (Said y)) old.second new.second → new.stale ≡ marked command (Said x) old.stale → Gives m command (Said x) new
said-both old new m command x y one b first second stale =
    let t = reach-said command (Some (Said y)) x old.first new.first old.stale m first (Mirrors.first b.mirrors) in
    let u = reach-said command (Some (Said x)) y old.second new.second old.stale m second (Mirrors.second b.mirrors) in
    let left = marked command (Said x) old.stale in
    let same : u.0 ≡ t.0 = sym (one m t.0 u.0 command x y t.1 u.1).1 in (
      t.0,
      t.1,
      mirrors new t.0 left stale (either-left (is_good new.first) (is_good new.second) (good-is new.first (Told.good t.2)))
          (agrees-good new.first left t.0 (Told.good t.2) (Told.stands t.2))
          (agrees-good new.second left t.0 (Told.good u.2) (subst (λ (k : Array). Stands new.second.memory.chart k) same (Told.stands u.2))),
    )

-- ---- one failed where the array stays, and both are Good

still : (m n : Array) (command : Command) (answer : Answer) → is_moving command ≡ false → Step m command answer n → n ≡ m
still m n Tick Done holds step = step
still m n Tick (Word w) holds step = absurd step
still m n Tick (Started t) holds step = absurd step
still m n Tick Range holds step = absurd step
still m n Tick (Held u) holds step = absurd step
still m n Tick Closed holds step = absurd step
still m n Tick Full holds step = absurd step
still m n Tick Busy holds step = absurd step
still m n (Load a) answer holds step = cc
still m n (Look a) answer holds step = cc
still m n (Store a w) answer holds step = cc
still m n Begin answer holds step = cc
still m n (Put t a w) answer holds step = cc
still m n (Commit t) answer holds step = cc
still m n (Abort t) answer holds step = cc

told-still : (m n : Array) (command : Command) (answer : Answer) (s : Side) → is_moving command ≡ false → Step m command answer n → Told m s → Told n s
told-still m n command answer s holds step = subst (λ (k : Array). Told k s) (sym (still m n command answer holds step))

both-told : (new : Pair) (n : Array) (left : List Bool) → new.stale ≡ left → Told n new.first → Told n new.second → Mirrors new n
both-told new n left stale f s = mirrors new n left stale (either-left (is_good new.first) (is_good new.second) (good-is new.first f.good)) (agrees-good new.first left n f.good f.stands) (agrees-good new.second left n s.good s.stands)

-- ---- by both replies

-- what a call that reaches both sides gives
pub gives : (old new : Pair) (m : Array) (command : Command) (one two : Option Reply) → IsOne → Before old m → Reaches command two one old.first new.first → Reaches command one two old.second new.second → new.stale ≡ marked command (heard one two) old.stale → new.last ≡ lasting old new → Gives m command (heard one two) new
gives old new m command None None law b first second stale last =
    let f = reach-none command None old.first new.first first in
    let s = reach-none command None old.second new.second second in
    absurd (neither (is_good old.first) (is_good old.second) f.0 s.0 (Mirrors.some b.mirrors))
gives old new m command None (Some Off) law b first second stale last =
    let f = reach-none command (Some Off) old.first new.first first in
    let s = reach-off command None old.second new.second old.stale m second (Mirrors.second b.mirrors) in
    let was = second.1.0 in
    let is = only-second old.last old.first.standing old.second.standing (IsPair.last b.pair) f.0 was in
    let dark : IsDark new = (ap is_good f.1 ∙ f.0, gone-is new.second s.1) in
    lost-at m command new Second (last ∙ rw f.0 is) dark s.0
gives old new m command None (Some Bad) law b first second stale last =
    let s = reach-bad command None old.second new.second old.stale m refl second (Mirrors.second b.mirrors) in (
      s.0,
      s.1,
      mirrors new m old.stale stale (either-right (is_good new.first) (is_good new.second) (good-is new.second (Told.good s.2)))
          (reach-carried command (Some Bad) old.first new.first old.stale old.stale m m first (λ t. t) (Mirrors.first b.mirrors))
          (agrees-good new.second old.stale m (Told.good s.2) (Told.stands s.2)),
    )
gives old new m command None (Some (Said y)) law b first second stale last = said-other old new m command y b first second stale
gives old new m command (Some Off) None law b first second stale last =
    let f = reach-off command None old.first new.first old.stale m first (Mirrors.first b.mirrors) in
    let s = reach-none command (Some Off) old.second new.second second in
    let is = only-first old.last old.first.standing old.second.standing (IsPair.last b.pair) first.1.0 s.0 in
    let dark : IsDark new = (gone-is new.first f.1, ap is_good s.1 ∙ s.0) in
    lost-at m command new First (lasting-one old new First b.pair s.0 is last) dark f.0
gives old new m command (Some Bad) None law b first second stale last =
    let f = reach-bad command None old.first new.first old.stale m refl first (Mirrors.first b.mirrors) in (
      f.0,
      f.1,
      mirrors new m old.stale stale (either-left (is_good new.first) (is_good new.second) (good-is new.first (Told.good f.2)))
          (agrees-good new.first old.stale m (Told.good f.2) (Told.stands f.2))
          (reach-carried command (Some Bad) old.second new.second old.stale old.stale m m second (λ t. t) (Mirrors.second b.mirrors)),
    )
gives old new m command (Some (Said x)) None law b first second stale last = said-alone old new m command x b first second stale
gives old new m command (Some Off) (Some Off) law b first second stale last =
    let f = reach-off command (Some Off) old.first new.first old.stale m first (Mirrors.first b.mirrors) in
    let s = reach-off command (Some Off) old.second new.second old.stale m second (Mirrors.second b.mirrors) in
    let dark : IsDark new = (gone-is new.first f.1, gone-is new.second s.1) in
    let both : is_good old.first ≡ true = first.1.0 in
    let too : is_good old.second ≡ true = second.1.0 in
    lost-at m command new Second (last ∙ rw (both, too, dark.0) refl) dark s.0
gives old new m command (Some Off) (Some Bad) law b first second stale last =
    let f = reach-off command (Some Bad) old.first new.first old.stale m first (Mirrors.first b.mirrors) in
    let s = reach-bad command (Some Off) old.second new.second old.stale m refl second (Mirrors.second b.mirrors) in (
      s.0,
      s.1,
      mirrors new m old.stale stale (either-right (is_good new.first) (is_good new.second) (good-is new.second (Told.good s.2)))
          (agrees-gone new.first old.stale m f.1)
          (agrees-good new.second old.stale m (Told.good s.2) (Told.stands s.2)),
    )
gives old new m command (Some Off) (Some (Said y)) law b first second stale last =
    let f = reach-off command (Some (Said y)) old.first new.first old.stale m first (Mirrors.first b.mirrors) in
    said-second old new m command y (Some Off) b second f.1 stale
gives old new m command (Some Bad) (Some Off) law b first second stale last =
    let f = reach-bad command (Some Off) old.first new.first old.stale m refl first (Mirrors.first b.mirrors) in
    let s = reach-off command (Some Bad) old.second new.second old.stale m second (Mirrors.second b.mirrors) in (
      f.0,
      f.1,
      mirrors new m old.stale stale (either-left (is_good new.first) (is_good new.second) (good-is new.first (Told.good f.2)))
          (agrees-good new.first old.stale m (Told.good f.2) (Told.stands f.2))
          (agrees-gone new.second old.stale m s.1),
    )
gives old new m command (Some Bad) (Some Bad) law b first second stale last =
    let f = reach-bad command (Some Bad) old.first new.first old.stale m refl first (Mirrors.first b.mirrors) in
    let s = reach-bad command (Some Bad) old.second new.second old.stale m refl second (Mirrors.second b.mirrors) in (
      f.0,
      f.1,
      mirrors new m old.stale stale (either-left (is_good new.first) (is_good new.second) (good-is new.first (Told.good f.2)))
          (agrees-good new.first old.stale m (Told.good f.2) (Told.stands f.2))
          (agrees-good new.second old.stale m (Told.good s.2) (Told.stands s.2)),
    )
gives old new m command (Some Bad) (Some (Said y)) law b first second stale last = at (cases_Bool (is_moving command))
  where
    at : (is_moving command ≡ true) ⊎ (is_moving command ≡ false) → Gives m command (Said y) new
    at (inl moving) = said-second old new m command y (Some Bad) b second (reach-spoiled command (Some (Said y)) old.first new.first moving first) stale
    at (inr still_there) =
        let f = reach-bad command (Some (Said y)) old.first new.first old.stale m still_there first (Mirrors.first b.mirrors) in
        let s = reach-said command (Some Bad) y old.second new.second old.stale m second (Mirrors.second b.mirrors) in
        (s.0, s.1, both-told new s.0 (marked command (Said y) old.stale) stale (told-still m s.0 command y new.first still_there s.1 f.2) s.2)
gives old new m command (Some (Said x)) (Some Off) law b first second stale last =
    let s = reach-off command (Some (Said x)) old.second new.second old.stale m second (Mirrors.second b.mirrors) in
    said-first old new m command x (Some Off) b first s.1 stale
gives old new m command (Some (Said x)) (Some Bad) law b first second stale last = at (cases_Bool (is_moving command))
  where
    at : (is_moving command ≡ true) ⊎ (is_moving command ≡ false) → Gives m command (Said x) new
    at (inl moving) = said-first old new m command x (Some Bad) b first (reach-spoiled command (Some (Said x)) old.second new.second moving second) stale
    at (inr still_there) =
        let f = reach-said command (Some Bad) x old.first new.first old.stale m first (Mirrors.first b.mirrors) in
        let s = reach-bad command (Some (Said x)) old.second new.second old.stale m still_there second (Mirrors.second b.mirrors) in
        (f.0, f.1, both-told new f.0 (marked command (Said x) old.stale) stale f.2 (told-still m f.0 command x new.second still_there f.1 s.2))
gives old new m command (Some (Said x)) (Some (Said y)) law b first second stale last = said-both old new m command x y law b first second stale
