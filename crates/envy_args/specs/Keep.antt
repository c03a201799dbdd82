-- Which memory in a file the words behind `keep` name.
use Rattle.std.specs.Prelude.{◌==◌, Bool, List, ◌∷◌, codes, Option, None, Some, unwrap_or, Result, Ok, Err}
use Rattle.std.specs.Option.{option_map_or}
use Rattle.envy_base.specs.declared.shape.Shape.{Shape}
use Rattle.envy_policy.specs.declared.setup.Setup.{Setup}
use Rattle.envy_args.specs.declared.command.WordsFault.{WordsFault}
use Rattle.envy_args.specs.declared.command.WordsFault.TheVariants.{Form}
use Rattle.envy_args.specs.declared.keep.KeepOptions.{KeepOptions}
use Rattle.envy_args.specs.declared.keep.Sizes.{Sizes}
use Rattle.envy_args.specs.Words.{Options, Text, accepted, given_number, number_of, plain_options, policy_of, usual, value_of}

abbrev pub beside_file : List Text
beside_file = codes "compact" ∷ plain_options

abbrev pub keep_names : List Text
keep_names = codes "file" ∷ codes "bytewise" ∷ beside_file

-- a size that isn't given isn't named
abbrev pub sizes_of : Options → Sizes
sizes_of options = record {
  segments = given_number options (codes "segments");
  rows = given_number options (codes "rows");
  pages = given_number options (codes "pages");
  shadows = given_number options (codes "shadows");
  frames = given_number options (codes "frames");
  entries = given_number options (codes "entries");
}

abbrev pub keep_options_of : Options → KeepOptions
keep_options_of options = record {
  sizes = sizes_of options;
  policy = policy_of options;
  limit = number_of options (codes "limit") 100;
  mark = given_number options (codes "mark");
  compact = number_of options (codes "compact") 0 == 1;
}

-- whether the words say that the file is written byte by byte
abbrev pub bytewise_of : Options → Bool
bytewise_of options = number_of options (codes "bytewise") 0 == 1

-- a path is needed
abbrev pub at_path : Option Text → Bool → KeepOptions → Result (Text × Bool × KeepOptions) WordsFault
at_path None bytewise options = Err Form
at_path (Some path) bytewise options = Ok (path, bytewise, options)

abbrev pub keeping : Options → Result (Text × Bool × KeepOptions) WordsFault
keeping options = at_path (value_of options (codes "file")) (bytewise_of options) (keep_options_of options)

-- the path, what is said of its writes, and the options that the words name, or why they are refused; no rule is asked before
-- the file is read
unfoldable pub keep_of : List Text → Result (Text × Bool × KeepOptions) WordsFault
keep_of words = option_map_or keeping (accepted keep_names words) (Err Form)

-- the sizes that are named, and of the others those of a shape
abbrev pub shape_named : Sizes → Shape → Shape
shape_named sizes sh = record {
  segments = unwrap_or sizes.segments sh.segments;
  rows = unwrap_or sizes.rows sh.rows;
  pages = unwrap_or sizes.pages sh.pages;
  shadows = unwrap_or sizes.shadows sh.shadows;
  frames = unwrap_or sizes.frames sh.frames;
  entries = unwrap_or sizes.entries sh.entries;
  reserves = sh.reserves;
  sums = sh.sums;
}

-- the setup of a memory of these sizes
abbrev pub setup_over : KeepOptions → Shape → Setup
setup_over options sh = record {
  shape = sh;
  policy = options.policy;
  limit = options.limit;
  mark = unwrap_or options.mark sh.frames;
}

-- the sizes of a file that is new
abbrev pub new_shape : KeepOptions → Shape
new_shape options = shape_named options.sizes usual
