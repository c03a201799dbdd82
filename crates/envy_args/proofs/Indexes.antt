-- The rules of an index.
use Rattle.std.proofs.Common.{◌≡◌, ◌∙◌, ◌<◌, ◌≤◌, true, Ok, Err, ap, sym, refl, lt-ltb, le-ltb, if◌then◌else◌}
use Rattle.envy_policy.specs.declared.setup.Setup.{Setup}
use Rattle.envy_args.specs.declared.command.Command.TheVariants.{Index}
use Rattle.envy_args.specs.declared.command.WordsFault.{WordsFault}
use Rattle.envy_args.specs.declared.read.TheConstants.{USUAL_ROWS}
use Rattle.envy_args.specs.declared.command.WordsFault.TheVariants.{Form, Setup as Rule}
use Rattle.envy_args.specs.Words.{Options, after_check, index_of, index_options, lives_of, reserved, rules_within, setup_of, tree_of, usual_of_index}
use Rattle.envy_args.specs.Reading.{are_readable, made}

module _ (o : Options) (all : are_readable index_options o ≡ true) (setup : Setup) (read : setup ≡ setup_of (reserved usual_of_index o) o) where
  made-index : made index_options index_of o ≡ after_check (rules_within USUAL_ROWS setup) (tree_of setup o)
  made-index = ap (λ b. if b then index_of o else Err Form) all ∙ ap (λ (s : Setup). after_check (rules_within USUAL_ROWS s) (tree_of s o)) (sym read)

  pub index-refused : (fault : WordsFault) → Err fault ≡ rules_within USUAL_ROWS setup → made index_options index_of o ≡ Err fault
  index-refused fault e = made-index ∙ ap (λ r. after_check r (tree_of setup o)) (sym e)

  index-checked : Ok tt ≡ rules_within USUAL_ROWS setup → made index_options index_of o ≡ tree_of setup o
  index-checked e = made-index ∙ ap (λ r. after_check r (tree_of setup o)) (sym e)

  pub index-shadows : Ok tt ≡ rules_within USUAL_ROWS setup → setup.shape.shadows < 32 → made index_options index_of o ≡ Err (Rule 13)
  index-shadows e few = index-checked e ∙ rw (lt-ltb setup.shape.shadows 32 few) refl

  pub index-pages : Ok tt ≡ rules_within USUAL_ROWS setup → 32 ≤ setup.shape.shadows → setup.shape.pages < 20 → made index_options index_of o ≡ Err (Rule 14)
  index-pages e enough few = index-checked e ∙ rw (le-ltb setup.shape.shadows 32 enough, lt-ltb setup.shape.pages 20 few) refl

  pub index-made : Ok tt ≡ rules_within USUAL_ROWS setup → 32 ≤ setup.shape.shadows → 20 ≤ setup.shape.pages → made index_options index_of o ≡ Ok (Index setup (lives_of o))
  index-made e enough room = index-checked e ∙ rw (le-ltb setup.shape.shadows 32 enough, le-ltb setup.shape.pages 20 room) refl
