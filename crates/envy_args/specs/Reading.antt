-- What stands between the words and the command.
use Rattle.std.specs.Prelude.{◌≡◌, ℕ, Bool, true, List, [], ◌∷◌, codes, Result, Err, IsTrue, IsFalse, MatchResult, if◌then◌else◌}
use Rattle.std.specs.List.{list_all}
use Rattle.std.specs.Option.{option_map_or}
use Rattle.envy_args.specs.declared.command.Command.{Command}
use Rattle.envy_args.specs.declared.command.WordsFault.{WordsFault}
use Rattle.envy_args.specs.declared.command.WordsFault.TheVariants.{Form}
use Rattle.envy_args.specs.Words.{Text, Options, is_number, is_value, value_of, run_of, plain_of, tpca_of, gen_of, save_of, resume_of, audit_of, segments_of, index_of, mirror_of, run_options, index_options, plain_options, tpca_options, gen_options, resume_options, audit_options}
use Rattle.envy_args.specs.declared.word.Word.{Word}
use Rattle.envy_args.specs.declared.word.Word.TheVariants.{Run, Plain, Tpca, Gen, Save, Resume, Audit, Map, Index, Mirror}

-- the text of a command word
abbrev pub word_of : Word → Text
word_of Run = codes "run"
word_of Plain = codes "plain"
word_of Tpca = codes "tpca"
word_of Gen = codes "gen"
word_of Save = codes "save"
word_of Resume = codes "resume"
word_of Audit = codes "audit"
word_of Map = codes "map"
word_of Index = codes "index"
word_of Mirror = codes "mirror"

abbrev pub all : List Word
all = Run ∷ Plain ∷ Tpca ∷ Gen ∷ Save ∷ Resume ∷ Audit ∷ Map ∷ Index ∷ Mirror ∷ []

-- the names of its options
abbrev pub options_of : Word → List Text
options_of Run = run_options
options_of Plain = plain_options
options_of Tpca = tpca_options
options_of Gen = gen_options
options_of Save = run_options
options_of Resume = resume_options
options_of Audit = audit_options
options_of Map = audit_options
options_of Index = index_options
options_of Mirror = run_options

-- the option isn't given, or has a number as its value
abbrev pub has_number : ℕ → Options → Text → Bool
has_number bits options name = option_map_or (is_number bits) (value_of options name) true

-- it isn't given, or has a value of its own
abbrev pub is_readable : Options → Text → Bool
is_readable options name = option_map_or (is_value name) (value_of options name) true

-- so has each of these
abbrev pub are_readable : List Text → Options → Bool
are_readable names options = list_all (is_readable options) names

-- a value where the test holds, and else the words aren't in the form
abbrev pub GivesIf : {A : Type 0} → Bool → A → Result A WordsFault → Type 0
GivesIf test value result = MatchResult result (λ x. IsTrue test × (x ≡ value)) (λ fault. IsFalse test × (fault ≡ Form))

abbrev pub shape_options : List Text
shape_options = codes "segments" ∷ codes "rows" ∷ codes "pages" ∷ codes "shadows" ∷ codes "frames" ∷ codes "entries" ∷ []

abbrev pub policy_options : List Text
policy_options = codes "part" ∷ codes "policy" ∷ []

abbrev pub area_options : List Text
area_options = codes "branches" ∷ codes "accounts" ∷ codes "transfers" ∷ []

-- the command that is made of options, where each can be read
abbrev pub made : List Text → (Options → Result Command WordsFault) → Options → Result Command WordsFault
made names make options = if are_readable names options then make options else Err Form

-- what makes a command of its options
abbrev pub make_of : Word → Options → Result Command WordsFault
make_of Run = run_of
make_of Plain = plain_of
make_of Tpca = tpca_of
make_of Gen = gen_of
make_of Save = save_of
make_of Resume = resume_of
make_of Audit = audit_of
make_of Map = segments_of
make_of Index = index_of
make_of Mirror = mirror_of
