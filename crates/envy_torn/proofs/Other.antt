-- A write of other bytes in the same place leaves what a torn write may leave.
use Rattle.std.proofs.Common.{◌≡◌, ◌∙◌, ℕ, ◌+◌, ◌-◌, ◌≤◌, List, ◌++◌, length, take, drop, ap, sym, arith, length-append, append_assoc}
use Rattle.std.proofs.lemmas.List.{length-drop, length-take-le}
use Rattle.std.proofs.Math.Seq.{drop-append_seam, take-append_seam}
use Rattle.envy_device.specs.Device.{Torn}
use Rattle.envy_torn.specs.Calls.{written}

module _ (file : List ℕ) (at : ℕ) (bytes other : List ℕ) (fits : at ≤ length file) (same : length other ≡ length bytes) where
  front : length (take at file) ≡ at
  front = length-take-le at file fits

  put : length (take at file ++ other) ≡ at + length bytes
  put = length-append (take at file) other ∙ (let long = front in omega (arith, long, same))

  split : written file at other ≡ take at file ++ (other ++ drop (at + length other) file)
  split = append_assoc (take at file) other (drop (at + length other) file)

  kept_front : take at (written file at other) ≡ take at file
  kept_front =
      ap (λ (l : List ℕ). take at l) split
      ∙ ap (λ (n : ℕ). take n (take at file ++ (other ++ drop (at + length other) file))) (sym front)
      ∙ take-append_seam (take at file) (other ++ drop (at + length other) file)

  kept_back : drop (at + length bytes) (written file at other) ≡ drop (at + length bytes) file
  kept_back =
      ap (λ (n : ℕ). drop n (written file at other)) (sym put)
      ∙ drop-append_seam (take at file ++ other) (drop (at + length other) file)
      ∙ ap (λ (n : ℕ). drop (at + n) file) same

  size : length (written file at other) ≡ at + length bytes + (length file - (at + length other))
  size =
      length-append (take at file ++ other) (drop (at + length other) file)
      ∙ (let long = put in let rest = length-drop (at + length other) file in omega (arith, long, rest))

  pub torn-other : Torn at (length bytes) file (written file at other)
  torn-other = record {
    before = kept_front;
    after = kept_back;
    no_shorter = (let long = size in omega (arith, long, same, fits));
    no_longer = (let long = size in omega (arith, long, same, fits));
  }
