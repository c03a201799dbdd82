-- Options of a parser, each given once, are those that come as new rows.
use Rattle.std.proofs.Common.{◌≡◌, true, false, not, refl, subst, List, [], ◌∷◌, ◌++◌, append_assoc}
use Rattle.std.specs.Str.{bytes_eq}
use Rattle.std.proofs.lemmas.Bool.{and_parts, and_from, or_parts, or_from, not-true, not_from_false}
use Rattle.clap.specs.Walk.{Row, Text, has_row}
use Rattle.envy_args.specs.Parser.{row_of}
use Rattle.envy_args.specs.Words.{Options, are_known, has}
use Rattle.envy_args.proofs.Finds.{is_among}
use Rattle.envy_args.proofs.Taking.{IsNew}

-- no row within has the name
within : (name : Text) (xs ys : List Row) (r : Row) → has_row name (xs ++ r ∷ ys) ≡ false → bytes_eq r.id name ≡ false
within name [] ys r e = (or_parts (bytes_eq r.id name) _ e).0
within name (x ∷ xs) ys r e = within name xs ys r (or_parts (bytes_eq x.id name) _ e).1

-- none comes at the end either
and-last : (name : Text) (rows : List Row) (r : Row) → has_row name rows ≡ false → bytes_eq r.id name ≡ false → has_row name (rows ++ r ∷ []) ≡ false
and-last name [] r e last = or_from (bytes_eq r.id name) false last refl
and-last name (x ∷ rows) r e last = let parts = or_parts (bytes_eq x.id name) _ e in or_from (bytes_eq x.id name) _ parts.0 (and-last name rows r parts.1 last)

module _ (names : List Text) where
  apart : (options : Options) (xs ys : List Row) (r : Row) → IsNew names (xs ++ r ∷ ys) options → has r.id options ≡ false
  apart [] xs ys r new = refl
  apart (o ∷ options) xs ys r new =
      let more = subst (λ (rows : List Row). IsNew names rows options) (append_assoc xs (r ∷ ys) (row_of o ∷ [])) new.2 in
      or_from (bytes_eq r.id o.0) _ (within o.0 xs ys r new.1) (apart options xs (ys ++ row_of o ∷ []) r more)

  pub known-new : (options : Options) (rows : List Row) → IsNew names rows options → are_known names options ≡ true
  unfolding are_known
  known-new [] rows new = refl
  known-new (o ∷ options) rows new =
      let once = not_from_false _ (apart options rows [] (row_of o) new.2) in
      and_from (is_among o.0 names) _ new.0 (and_from (not (has o.0 options)) _ once (known-new options (rows ++ row_of o ∷ []) new.2))

  -- no option has a row
  abbrev Fresh : List Row → Options → Type 0
  Fresh rows [] = Unit {0}
  Fresh rows (o ∷ options) = (has_row o.0 rows ≡ false) × Fresh rows options

  fresh-more : (rows : List Row) (r : Row) (options : Options) → Fresh rows options → has r.id options ≡ false → Fresh (rows ++ r ∷ []) options
  fresh-more rows r [] fresh e = tt
  fresh-more rows r (o ∷ options) fresh e =
      let parts = or_parts (bytes_eq r.id o.0) _ e in
      (and-last o.0 rows r fresh.0 parts.0, fresh-more rows r options fresh.1 parts.1)

  fresh-new : (options : Options) (rows : List Row) → Fresh rows options → are_known names options ≡ true → IsNew names rows options
  unfolding are_known
  fresh-new [] rows fresh known = tt
  fresh-new (o ∷ options) rows fresh known =
      let parts = and_parts (is_among o.0 names) _ known in
      let others = and_parts (not (has o.0 options)) _ parts.1 in
      let once = not-true (has o.0 options) others.0 in
      (parts.0, fresh.0, fresh-new options (rows ++ row_of o ∷ []) (fresh-more rows (row_of o) options fresh.1 once) others.1)

  none-fresh : (options : Options) → Fresh [] options
  none-fresh [] = tt
  none-fresh (o ∷ options) = (refl, none-fresh options)

  pub new-known : (options : Options) → are_known names options ≡ true → IsNew names [] options
  new-known options known = fresh-new options [] (none-fresh options) known
