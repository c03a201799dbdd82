-- A board to which a memory is attached until it is.
use Rattle.std.proofs.Common.{◌≡◌, inl, inr, ℕ, zero, suc, ◌<◌, false, refl, sym, ap, ◌∙◌, subst, arith}
use Rattle.std.specs.Prelude.{IsTrue, Ok, Err}
use Rattle.envy_array.specs.Array.{Array}
use Rattle.envy_base.specs.Shape.{IsShape}
use Rattle.envy_base.specs.State.{State, lit}
use Rattle.envy_base.specs.declared.shape.Shape.{Shape}
use Rattle.envy_soundness.specs.Same.{Counted, Grows, Kept}
use Rattle.envy_soundness.specs.Sound.{IsSound}
use Rattle.envy_meaning.specs.Stands.{Stands}
use Rattle.envy_soundness.specs.Words.{durable}
use Rattle.envy_map.specs.Fields.{Chart, chart, IsFormatted, shape_of}
use Rattle.envy_memory.specs.Attaching.{Attaches, Declines}
use Rattle.envy_memory.specs.Calls.{fresh}
use Rattle.envy_memory.specs.Picture.{Picture}
use Rattle.envy_memory.specs.declared.faults.AttachFault.{AttachFault}
use Rattle.envy_memory.specs.declared.faults.AttachFault.TheVariants.{Off, Setup as OfSetup, NotFormatted, OtherShape, Memory}
use Rattle.envy_memory.proofs.AttachLemmas.{formatted-sound, kept-shape}
use Rattle.envy_policy.specs.Setup.{checked}
use Rattle.envy_policy.specs.declared.setup.Setup.{Setup}
use Rattle.envy_run.proofs.Checked.{shape-of-checked}
use Rattle.envy_run.specs.Attached.{HoldsStill, IsAttached, IsUntouched, KeepsImage}

untouched-kept : (old s t : Chart) → IsUntouched old s → Kept s t → IsUntouched old t
untouched-kept old s t u k =
    let c = k.counted in
    let cuts = u.cuts in
    let bads = u.bads in
    let more = Counted.cuts c in
    let worse = Counted.bads c in
    let lives = u.lives in
    let same_lives = Counted.lives c in
    let low = Counted.begun c in
    let few = Counted.few c in
    let begun = u.begun in
    let least = Grows.least (Counted.erases c) in
    let most = Grows.few (Counted.erases c) in
    let erases = u.erases in
    record {
      shape = k.shape ∙ u.shape;
      pulled = Counted.pulled c ∙ u.pulled;
      plans = Counted.plans c ∙ u.plans;
      last_plan = Counted.last_plan c ∙ u.last_plan;
      given = Counted.given c ∙ u.given;
      cuts = omega arith;
      bads = omega arith;
      begun = omega arith;
      erases = omega arith;
      lives = omega arith;
    }

-- what a restart keeps is formatted still
formatted-kept : (s t : Chart) → IsFormatted s.fields → Kept s t → IsFormatted t.fields
formatted-kept s t (magic, version) k = formatted-sound t (k.magic ∙ magic) k.sound

keeps-kept : (old s t : Chart) → KeepsImage old s → Kept s t → (t.cuts ≡ 0 → ⊥) → KeepsImage old t
keeps-kept old s t k kept cut = record {
  still = record {
    formatted = formatted-kept s t (HoldsStill.formatted k.still) kept;
    sound = kept.sound;
    durable = kept.durable ∙ HoldsStill.durable k.still;
  };
  untouched = untouched-kept old s t k.untouched kept;
  bads = λ none. absurd (cut none);
}

-- the image itself
pub keeps-first : (c : Chart) → IsFormatted c.fields → IsSound c → KeepsImage c c
keeps-first c formatted sound = record {
  still = record { formatted = formatted; sound = sound; durable = refl };
  untouched = record {
    shape = refl;
    pulled = refl;
    plans = refl;
    last_plan = refl;
    given = refl;
    cuts = omega arith;
    bads = omega arith;
    begun = refl;
    erases = refl;
    lives = omega arith;
  };
  bads = λ none. refl;
}

-- attaching to what was kept
pub attached-kept : (old s : Chart) (setup : Setup) (p : Picture) → KeepsImage old s → Attaches s setup p → IsAttached old setup p
attached-kept old s setup p k a = record {
  stands = subst (λ (v : Array). Stands p.chart v) (ap (λ (sh : Shape). fresh sh.shadows (durable s)) (IsUntouched.shape k.untouched) ∙ ap (fresh old.shape.shadows) (HoldsStill.durable k.still)) a.stands;
  begins = a.begins;
  untouched = untouched-kept old s p.chart k.untouched a.kept;
}

-- attaching was cut
pub keeps-off : (old : Chart) (s t : State) (setup : Setup) → KeepsImage old (chart s) → Declines s setup Off t → KeepsImage old (chart t)
keeps-off old s t setup k (off, inl (was, same)) = subst (λ (x : State). KeepsImage old (chart x)) (sym same) k
keeps-off old s t setup k (off, inr (may, kept, rose)) = keeps-kept old (chart s) (chart t) k kept (λ none. cut none)
  where
    cut : t.cuts ≡ 0 → ⊥
    cut none = let low = Counted.cuts (Kept.counted kept) in let more = rose (omega arith) in absurd (omega arith)

-- attaching to a formatted and sound board of the setup's shape is refused for want of power or memory alone
pub never-declined : (s t : State) (setup : Setup) (fault : AttachFault) → checked setup ≡ Ok tt → s.shape ≡ setup.shape → IsFormatted (chart s).fields → IsSound (chart s) → (fault ≡ Off → ⊥) → (fault ≡ Memory → ⊥) → Declines s setup fault t → ⊥
never-declined s t setup Off checks shape formatted sound on room d = on refl
never-declined s t setup Memory checks shape formatted sound on room d = room refl
never-declined s t setup (OfSetup fault) checks shape formatted sound on room (power, fails, same) = let clash : Ok tt ≡ Err fault = sym checks ∙ fails in cc
never-declined s t setup NotFormatted checks shape formatted sound on room (power, ok, never, same) = never formatted
never-declined s t setup (OtherShape kept) checks shape formatted sound on room (power, ok, was, is, other, same) =
    let sized : IsShape s.shape = subst IsShape (sym shape) (shape-of-checked setup checks) in
    other (is ∙ (sym (kept-shape (chart s) (shape_of (chart s).fields) sized sound refl) ∙ shape))

-- without a return of power left none is left
pub no-lives : (n : ℕ) → (0 < n → IsTrue false) → n ≡ 0
no-lives zero never = refl
no-lives (suc n) never = absurd (let clash = never (omega arith) in cc)

-- a cut of power left the lives as they were, and its return takes one
pub lives-fall : (s t u : State) (setup : Setup) → Declines s setup Off t → 0 < t.lives → u ≡ lit t → u.lives < s.lives
lives-fall s t u setup (off, inl (was, same)) some is = let left = ap (λ (x : State). x.lives) is in let before = ap (λ (x : State). x.lives) same in omega arith
lives-fall s t u setup (off, inr (may, kept, rose)) some is = let left = ap (λ (x : State). x.lives) is in let before = Counted.lives (Kept.counted kept) in omega arith

-- power came back
pub keeps-lit : (old : Chart) (t u : State) → KeepsImage old (chart t) → u ≡ lit t → KeepsImage old (chart u)
keeps-lit old t u k is =
    subst (λ (x : State). KeepsImage old (chart x)) (sym is) (record {
      still = record { formatted = HoldsStill.formatted k.still; sound = HoldsStill.sound k.still; durable = HoldsStill.durable k.still };
      untouched = record {
        shape = IsUntouched.shape k.untouched;
        pulled = IsUntouched.pulled k.untouched;
        plans = IsUntouched.plans k.untouched;
        last_plan = IsUntouched.last_plan k.untouched;
        given = IsUntouched.given k.untouched;
        cuts = IsUntouched.cuts k.untouched;
        bads = IsUntouched.bads k.untouched;
        begun = IsUntouched.begun k.untouched;
        erases = IsUntouched.erases k.untouched;
        lives = let low = IsUntouched.lives k.untouched in omega arith;
      };
      bads = KeepsImage.bads k;
    })
