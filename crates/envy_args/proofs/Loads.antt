-- The rules of a load.
use Rattle.std.proofs.Common.{◌≡◌, ◌∙◌, ◌↔◌, ℕ, ◌<◌, ◌≤◌, Bool, true, false, IsTrue, nat_le, codes, Ok, Err, ap, sym, refl, lt-ltb, le-ltb, true≢false, leb-true, le-leb, if◌then◌else◌}
use Rattle.std.proofs.lemmas.Bool.{and_from, and_parts, false_from_ne_true}
use Rattle.envy_array.specs.Area.{Fits}
use Rattle.envy_array.specs.declared.area.Area.{Area}
use Rattle.envy_policy.specs.declared.setup.Setup.{Setup}
use Rattle.envy_args.specs.declared.command.Command.TheVariants.{Tpca}
use Rattle.envy_args.specs.declared.command.WordsFault.{WordsFault}
use Rattle.envy_args.specs.declared.command.WordsFault.TheVariants.{Form, Setup as Rule}
use Rattle.envy_args.specs.Words.{Options, after_check, area_of, fits, lives_of, load_of, most_rows, number_of, reserved, rules_within, setup_of, start_of, tpca_of, tpca_options, usual_of_load}
use Rattle.envy_args.specs.Reading.{are_readable, made}

pub fits-Fits : (area : Area) (pages : ℕ) → IsTrue (fits area pages) ↔ Fits area pages
fits-Fits area pages = (
  λ e.
      let p = and_parts (nat_le 1 area.branches) _ e in
      let q = and_parts (nat_le 1 area.accounts) _ p.1 in
      record { branches = leb-true 1 area.branches p.0; accounts = leb-true 1 area.accounts q.0; room = leb-true _ _ q.1 },
  λ fit. and_from (nat_le 1 area.branches) _ (le-leb _ _ fit.branches) (and_from (nat_le 1 area.accounts) _ (le-leb _ _ fit.accounts) (le-leb _ _ fit.room)),
)

module _ (o : Options) (all : are_readable tpca_options o ≡ true) (setup : Setup) (read : setup ≡ setup_of (reserved usual_of_load o) o) (most : ℕ) (limit : most ≡ most_rows o) where
  made-load : made tpca_options tpca_of o ≡ after_check (rules_within most setup) (load_of setup o)
  made-load = ap (λ b. if b then tpca_of o else Err Form) all ∙ ap (λ (s : Setup). after_check (rules_within (most_rows o) s) (load_of s o)) (sym read) ∙ ap (λ (m : ℕ). after_check (rules_within m setup) (load_of setup o)) (sym limit)

  pub load-refused : (fault : WordsFault) → Err fault ≡ rules_within most setup → made tpca_options tpca_of o ≡ Err fault
  load-refused fault e = made-load ∙ ap (λ r. after_check r (load_of setup o)) (sym e)

  load-checked : Ok tt ≡ rules_within most setup → made tpca_options tpca_of o ≡ load_of setup o
  load-checked e = made-load ∙ ap (λ r. after_check r (load_of setup o)) (sym e)

  pub load-unfit : Ok tt ≡ rules_within most setup → (b : Bool) → (IsTrue b ↔ Fits (area_of o) setup.shape.pages) → b ≡ false → made tpca_options tpca_of o ≡ Err (Rule 11)
  load-unfit e b decides is =
      let unfit = false_from_ne_true (fits (area_of o) setup.shape.pages) (λ yes. true≢false (sym (decides.1 ((fits-Fits (area_of o) setup.shape.pages).0 yes)) ∙ is)) in
      load-checked e ∙ rw unfit refl

  pub load-shadows : Ok tt ≡ rules_within most setup → (b : Bool) → (IsTrue b ↔ Fits (area_of o) setup.shape.pages) → b ≡ true → setup.shape.shadows < 5 → made tpca_options tpca_of o ≡ Err (Rule 12)
  load-shadows e b decides is few =
      let fit = (fits-Fits (area_of o) setup.shape.pages).1 (decides.0 is) in
      load-checked e ∙ rw (fit, lt-ltb setup.shape.shadows 5 few) refl

  pub load-made : Ok tt ≡ rules_within most setup → (b : Bool) → (IsTrue b ↔ Fits (area_of o) setup.shape.pages) → b ≡ true → 5 ≤ setup.shape.shadows
      → made tpca_options tpca_of o ≡ Ok (Tpca setup (lives_of o) (start_of o) (area_of o) (number_of o (codes "every") 0))
  load-made e b decides is enough =
      let fit = (fits-Fits (area_of o) setup.shape.pages).1 (decides.0 is) in
      load-checked e ∙ rw (fit, le-ltb setup.shape.shadows 5 enough) refl
