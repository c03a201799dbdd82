use Rattle.std.proofs.Common.{◌≡◌, map, take}
use Rattle.clap.specs.Words.{app_of}
use Rattle.envy_args.specs.Parser.{app_of_names}
use Rattle.envy_args.proofs.options.parser.Given as goal

abbrev pub invariant-loop-name : goal.invariant-loop-name
invariant-loop-name l = app_of l.parser ≡ app_of_names (map (λ name. name.now) (take l.name-index l.names))
