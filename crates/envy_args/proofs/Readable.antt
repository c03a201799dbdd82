-- Options that can be read, list by list.
use Rattle.std.proofs.Common.{◌≡◌, ◌∙◌, true, false, List, [], ◌∷◌, ◌++◌, codes, refl, ℕ, Option, Result}
use Rattle.std.proofs.lemmas.Bool.{and_from, and_left, and_right}
use Rattle.std.proofs.lemmas.List.Folds.{list_all-append}
use Rattle.envy_gen.specs.declared.mix.Mix.{Mix}
use Rattle.envy_args.specs.declared.command.WordsFault.{WordsFault}
use Rattle.envy_args.specs.Words.{Options, Text, gen_of, gen_options, generating, given_number, index_options, mix_of, number_of, plain_options, resume_options, run_options, start_of, tpca_options}
use Rattle.envy_args.specs.Reading.{are_readable, area_options, is_readable, made, policy_options, shape_options}

abbrev after_policy : List Text
after_policy = codes "limit" ∷ codes "mark" ∷ []

abbrev in_image : List Text
in_image = codes "limit" ∷ codes "mark" ∷ codes "lives" ∷ codes "large" ∷ []

abbrev after_lives : List Text
after_lives = codes "start" ∷ area_options ++ codes "every" ∷ []

module _ (o : Options) where
  first : (xs ys : List Text) → are_readable xs o ≡ false → are_readable (xs ++ ys) o ≡ false
  first xs ys e = list_all-append (is_readable o) xs ys ∙ and_left _ _ e

  second : (xs ys : List Text) → are_readable ys o ≡ false → are_readable (xs ++ ys) o ≡ false
  second xs ys e = list_all-append (is_readable o) xs ys ∙ and_right (are_readable xs o) _ e

  both : (xs ys : List Text) → are_readable xs o ≡ true → are_readable ys o ≡ true → are_readable (xs ++ ys) o ≡ true
  both xs ys e d = list_all-append (is_readable o) xs ys ∙ and_from _ _ e d

  -- ---- a setup

  after_shape : are_readable (policy_options ++ after_policy) o ≡ false → are_readable plain_options o ≡ false
  after_shape = second shape_options (policy_options ++ after_policy)

  pub plain-shape : are_readable shape_options o ≡ false → are_readable plain_options o ≡ false
  plain-shape = first shape_options (policy_options ++ after_policy)

  pub plain-policy : are_readable policy_options o ≡ false → are_readable plain_options o ≡ false
  plain-policy e = after_shape (first policy_options after_policy e)

  pub plain-limit : is_readable o (codes "limit") ≡ false → are_readable plain_options o ≡ false
  plain-limit e = after_shape (second policy_options after_policy (and_left _ _ e))

  pub plain-mark : is_readable o (codes "mark") ≡ false → are_readable plain_options o ≡ false
  plain-mark e = after_shape (second policy_options after_policy (and_right (is_readable o (codes "limit")) _ (and_left _ _ e)))

  pub plain-all : are_readable shape_options o ≡ true → are_readable policy_options o ≡ true → is_readable o (codes "limit") ≡ true → is_readable o (codes "mark") ≡ true → are_readable plain_options o ≡ true
  plain-all shape policy limit mark = both shape_options (policy_options ++ after_policy) shape (both policy_options after_policy policy (and_from _ _ limit (and_from _ _ mark refl)))

  -- ---- what goes on with an image

  pub resume-policy : are_readable policy_options o ≡ false → are_readable resume_options o ≡ false
  resume-policy = first policy_options in_image

  pub resume-limit : is_readable o (codes "limit") ≡ false → are_readable resume_options o ≡ false
  resume-limit e = second policy_options in_image (and_left _ _ e)

  pub resume-mark : is_readable o (codes "mark") ≡ false → are_readable resume_options o ≡ false
  resume-mark e = second policy_options in_image (and_right (is_readable o (codes "limit")) _ (and_left _ _ e))

  pub resume-lives : is_readable o (codes "lives") ≡ false → are_readable resume_options o ≡ false
  resume-lives e = second policy_options in_image (and_right (is_readable o (codes "limit")) _ (and_right (is_readable o (codes "mark")) _ (and_left _ _ e)))

  pub resume-large : is_readable o (codes "large") ≡ false → are_readable resume_options o ≡ false
  resume-large e = second policy_options in_image (and_right (is_readable o (codes "limit")) _ (and_right (is_readable o (codes "mark")) _ (and_right (is_readable o (codes "lives")) _ (and_left _ _ e))))

  pub resume-all : are_readable policy_options o ≡ true → is_readable o (codes "limit") ≡ true → is_readable o (codes "mark") ≡ true → is_readable o (codes "lives") ≡ true → is_readable o (codes "large") ≡ true → are_readable resume_options o ≡ true
  resume-all policy limit mark lives large = both policy_options in_image policy (and_from _ _ limit (and_from _ _ mark (and_from _ _ lives (and_from _ _ large refl))))

  -- ---- a run

  pub index-setup : are_readable plain_options o ≡ false → are_readable index_options o ≡ false
  index-setup e = and_right (is_readable o (codes "reserves")) _ (first plain_options (codes "lives" ∷ []) e)

  pub index-reserves : is_readable o (codes "reserves") ≡ false → are_readable index_options o ≡ false
  index-reserves e = and_left _ _ e

  pub index-lives : is_readable o (codes "lives") ≡ false → are_readable index_options o ≡ false
  index-lives e = and_right (is_readable o (codes "reserves")) _ (second plain_options (codes "lives" ∷ []) (and_left _ _ e))

  pub index-all : is_readable o (codes "reserves") ≡ true → are_readable plain_options o ≡ true → is_readable o (codes "lives") ≡ true → are_readable index_options o ≡ true
  index-all r e d = and_from _ _ r (both plain_options (codes "lives" ∷ []) e (and_from _ _ d refl))

  pub run-powered : are_readable index_options o ≡ false → are_readable run_options o ≡ false
  run-powered = first index_options (codes "large" ∷ [])

  pub run-large : is_readable o (codes "large") ≡ false → are_readable run_options o ≡ false
  run-large e = second index_options (codes "large" ∷ []) (and_left _ _ e)

  pub run-all : are_readable index_options o ≡ true → is_readable o (codes "large") ≡ true → are_readable run_options o ≡ true
  run-all e d = both index_options (codes "large" ∷ []) e (and_from _ _ d refl)

  -- ---- a load

  pub tpca-run : are_readable run_options o ≡ false → are_readable tpca_options o ≡ false
  tpca-run = first run_options after_lives

  pub tpca-start : is_readable o (codes "start") ≡ false → are_readable tpca_options o ≡ false
  tpca-start e = second run_options after_lives (and_left _ _ e)

  pub tpca-area : are_readable area_options o ≡ false → are_readable tpca_options o ≡ false
  tpca-area e = second run_options after_lives (and_right (is_readable o (codes "start")) _ (first area_options (codes "every" ∷ []) e))

  pub tpca-every : is_readable o (codes "every") ≡ false → are_readable tpca_options o ≡ false
  tpca-every e = second run_options after_lives (and_right (is_readable o (codes "start")) _ (second area_options (codes "every" ∷ []) (and_left _ _ e)))

  pub tpca-all : are_readable run_options o ≡ true → is_readable o (codes "start") ≡ true → are_readable area_options o ≡ true → is_readable o (codes "every") ≡ true → are_readable tpca_options o ≡ true
  tpca-all e start area every = both run_options after_lives e (and_from _ _ start (both area_options (codes "every" ∷ []) area (and_from _ _ every refl)))

  -- ---- a trace that is drawn

  -- one of them can't be read
  one : (before after : List Text) (name : Text) → is_readable o name ≡ false → are_readable (before ++ name ∷ after) o ≡ false
  one before after name e = second before (name ∷ after) (and_left _ _ e)

  pub gen-start : is_readable o (codes "start") ≡ false → are_readable gen_options o ≡ false
  gen-start = one [] (codes "lines" ∷ codes "pages" ∷ codes "hot" ∷ codes "share" ∷ codes "stores" ∷ []) (codes "start")

  pub gen-lines : is_readable o (codes "lines") ≡ false → are_readable gen_options o ≡ false
  gen-lines = one (codes "start" ∷ []) (codes "pages" ∷ codes "hot" ∷ codes "share" ∷ codes "stores" ∷ []) (codes "lines")

  pub gen-pages : is_readable o (codes "pages") ≡ false → are_readable gen_options o ≡ false
  gen-pages = one (codes "start" ∷ codes "lines" ∷ []) (codes "hot" ∷ codes "share" ∷ codes "stores" ∷ []) (codes "pages")

  pub gen-hot : is_readable o (codes "hot") ≡ false → are_readable gen_options o ≡ false
  gen-hot = one (codes "start" ∷ codes "lines" ∷ codes "pages" ∷ []) (codes "share" ∷ codes "stores" ∷ []) (codes "hot")

  pub gen-share : is_readable o (codes "share") ≡ false → are_readable gen_options o ≡ false
  gen-share = one (codes "start" ∷ codes "lines" ∷ codes "pages" ∷ codes "hot" ∷ []) (codes "stores" ∷ []) (codes "share")

  pub gen-stores : is_readable o (codes "stores") ≡ false → are_readable gen_options o ≡ false
  gen-stores = one (codes "start" ∷ codes "lines" ∷ codes "pages" ∷ codes "hot" ∷ codes "share" ∷ []) [] (codes "stores")

  pub gen-all : is_readable o (codes "start") ≡ true → is_readable o (codes "lines") ≡ true → is_readable o (codes "pages") ≡ true
      → is_readable o (codes "hot") ≡ true → is_readable o (codes "share") ≡ true → is_readable o (codes "stores") ≡ true → are_readable gen_options o ≡ true
  gen-all start lines pages hot share stores = and_from _ _ start (and_from _ _ lines (and_from _ _ pages (and_from _ _ hot (and_from _ _ share (and_from _ _ stores refl)))))

  -- the command is made of what was read
  pub gen-made : are_readable gen_options o ≡ true → (start lines pages : ℕ) (hot share stores : Option ℕ) → start ≡ start_of o → lines ≡ number_of o (codes "lines") 1000
      → pages ≡ number_of o (codes "pages") 64 → hot ≡ given_number o (codes "hot") → share ≡ given_number o (codes "share") → stores ≡ given_number o (codes "stores")
      → (mix : Result Mix WordsFault) → mix ≡ mix_of pages hot share stores → generating start lines mix ≡ made gen_options gen_of o
  gen-made all start lines pages hot share stores s l p h sh st mix m = rw (m, s, l, p, h, sh, st, all) refl
