-- What a page that comes into a frame keeps, at each exit.
use Rattle.std.proofs.Common.{◌≡◌, ◌∙◌, ℕ, Result, Ok, Err, sym, ap, arith, refl, ◌<◌}
use Rattle.std.specs.Prelude.{IsErrAnd, MatchResult}
use Rattle.envy_base.specs.declared.board.Off.{Off}
use Rattle.envy_map.specs.Fields.{Chart, Fields}
use Rattle.envy_soundness.specs.Same.{Same, Stored, Interrupted, Shadowed, Dropped}
use Rattle.envy_soundness.proofs.WordPuts.{Stored-after, Interrupted-after, Shadowed-after, Dropped-after}
use Rattle.envy_engine.specs.declared.parts.Parts.{Parts}
use Rattle.envy_map.specs.Writes.{Writes}
use Rattle.envy_soundness.proofs.Composition.{at-each, exits}

-- a word that is stored, or interrupted, after its page's frame was filled
pub stored-filled : (a b c : Chart) (n w : ℕ) (r : Result Unit Off) → Same 0 0 a b → MatchResult r (λ _. Stored 0 0 b c n w) (λ _. Interrupted 0 0 b c n w) → MatchResult r (λ _. Stored 0 0 a c n w) (λ _. Interrupted 0 0 a c n w)
stored-filled a b c n w (Ok done) s t = Stored-after 0 0 0 0 a b c n w s t
stored-filled a b c n w (Err off) s t = Interrupted-after 0 0 0 0 a b c n w s t

pub shadowed-filled : (a b c : Chart) (n w : ℕ) (r : Result Unit Off) → Same 0 0 a b → MatchResult r (λ _. Shadowed 0 0 b c n w) (λ _. Dropped 0 0 b c) → MatchResult r (λ _. Shadowed 0 0 a c n w) (λ _. Dropped 0 0 a c)
shadowed-filled a b c n w (Ok done) s t = Shadowed-after 0 0 0 0 a b c n w s t
shadowed-filled a b c n w (Err off) s t = Dropped-after 0 0 0 0 a b c s t

-- where the fill itself failed
pub match-failed : (r : Result Unit Off) (Q : Off → Type 0) (P A : Type 0) → IsErrAnd r Q → A → MatchResult r (λ (_ : Unit {0}). P) (λ (_ : Off). A)
match-failed (Ok done) Q P A h a = absurd h
match-failed (Err off) Q P A h a = a

-- which parts changed
pub parts-filled : (x y : Parts) → y ≡ record x { frames = y.frames } → y ≡ record x { frames = y.frames; space = y.space; cache = y.cache }
parts-filled x y is = is ∙ ap (λ (z : Parts). record x { frames = y.frames; space = z.space; cache = z.cache }) (sym is)

pub parts-brought : (x y z : Parts) → y ≡ record x { frames = y.frames } → z ≡ record y { space = z.space; cache = z.cache } → z ≡ record x { frames = z.frames; space = z.space; cache = z.cache }
parts-brought x y z filled moved = moved ∙ ap (λ (w : Parts). record w { frames = w.frames; space = z.space; cache = z.cache }) filled ∙ ap (λ (w : Parts). record x { frames = w.frames; space = z.space; cache = z.cache }) (sym moved)

-- a put of a field leaves the shape
pub shape-put : (c new : Chart) (change : Fields → Fields) (r : Result Unit Off) → Writes change c r new → new.shape ≡ c.shape
shape-put c new change r writes = at-each r (new.shape ≡ c.shape) (exits c new change r (λ (z : Chart). z.shape ≡ c.shape) (λ (z : Chart). z.shape ≡ c.shape) (λ on. refl) (λ off. refl) (λ on. refl) (λ on. refl) writes)

-- where there is room not every frame is held
pub never-full : (held count : ℕ) → held < count → held ≡ count → ⊥
never-full held count room full = omega arith
