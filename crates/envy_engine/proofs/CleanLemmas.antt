-- A cleaning begins, and ends.
use Rattle.std.proofs.Common.{◌≡◌, ◌∙◌, ℕ, List, [], ◌∷◌, ◌++◌, sym, ap, arith}
use Rattle.std.specs.Prelude.{All}
use Rattle.std.proofs.lemmas.List.Elements.{All-append}
use Rattle.envy_engine.specs.declared.parts.Parts.{Parts}

-- one more element that has what the others have
pub All-push : (P : ℕ → Type 0) (xs : List ℕ) (x : ℕ) → All P xs → P x → All P (xs ++ x ∷ [])
All-push P xs x all px = All-append P xs (x ∷ []) all (λ k d lt. let zero : k ≡ 0 = omega arith in rw zero px)

-- which parts changed, of a cleaning that begins and then ends
pub parts-begun : (x y : Parts) → y ≡ record x { chooser = y.chooser; reloc = y.reloc } → y ≡ record x { space = y.space; cache = y.cache; reloc = y.reloc; stages = y.stages; chooser = y.chooser }
parts-begun x y is = is ∙ ap (λ (z : Parts). record x { space = z.space; cache = z.cache; reloc = y.reloc; stages = z.stages; chooser = y.chooser }) (sym is)

pub parts-cleaned : (x y z : Parts) → y ≡ record x { chooser = y.chooser; reloc = y.reloc } → z ≡ record y { space = z.space; cache = z.cache; reloc = z.reloc; stages = z.stages } → z ≡ record x { space = z.space; cache = z.cache; reloc = z.reloc; stages = z.stages; chooser = z.chooser }
parts-cleaned x y z begun cleaned = cleaned ∙ ap (λ (w : Parts). record w { space = z.space; cache = z.cache; reloc = z.reloc; stages = z.stages; chooser = y.chooser }) begun ∙ ap (λ (w : Parts). record x { space = z.space; cache = z.cache; reloc = z.reloc; stages = z.stages; chooser = w.chooser }) (sym cleaned)
