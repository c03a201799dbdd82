use Rattle.std.proofs.Common.{◌∙◌, refl}
use Rattle.envy_plain.proofs.Moves.{looks}
use Rattle.envy_plain.proofs.plain.Plain.look.Goals as goal

pub returns : goal.returns
returns c =
    let a = c.self.inside in
    let loaded = c.in_ok-word.ensures in (
      loaded.0,
      c.unwrap_or.ensures ∙ looks a.words.items a.active a.saved.items c.deref.result.now a.owners.items a.owned a.shadows _ c.args.a c.in_ok-word.word c.args.self.now c.word_before.result c.self.invariant c.self.view_is c.deref.ensures.value loaded.0 loaded.1 c.word_before.ensures,
      refl,
    )
