-- The words of a memory with one transaction are as those of any memory of words.
use Rattle.std.specs.Prelude.{◌≡◌, ℕ, ◌*◌, ◌^◌, ◌<◌, ◌&&◌, Bool, true, false, length}
use Rattle.std.proofs.Common.{sym, ◌∙◌, ap, refl, subst}
use Rattle.envy_array.specs.Words.{IsSheet}
use Rattle.envy_soundness.proofs.WordLists.{length-live, length-durable}
use Rattle.envy_map.specs.Fields.{Chart}
use Rattle.envy_memory.specs.Picture.{Picture}
use Rattle.envy_memory.specs.Sheets.{words_read, sheet_of}
use Rattle.envy_base.specs.declared.page.TheConstants.{PAGE_WORDS}

-- there are as many words as the pages have, open or not
pub words_long : (open_now : Bool) (c : Chart) → length (words_read open_now c) ≡ PAGE_WORDS * c.shape.pages
words_long true c = length-live c
words_long false c = length-durable c

pub lawful_sheet : (p : Picture) (begun : Bool) → PAGE_WORDS * p.chart.shape.pages < 2 ^ 32 → IsSheet (sheet_of p begun)
lawful_sheet p begun few = record {
  long = length-durable p.chart ∙ sym (words_long (p.chart.on && begun) p.chart);
  few = subst (λ (n : ℕ). n < 2 ^ 32) (sym (words_long (p.chart.on && begun) p.chart)) few;
  shut = λ shut. ap (λ (b : Bool). words_read b p.chart) shut;
  off = λ off. ap (λ (b : Bool). b && begun) off;
  shut_beside = λ _. refl;
}
