-- What a crash leaves of a file that is written byte by byte.
use Rattle.std.proofs.Common.{◌≡◌, ◌≢◌, ◌⊎◌, inl, inr, ⊎_elim, ℕ, ◌+◌, ◌-◌, ◌<◌, ◌≤◌, List, [], ◌∷◌, ◌++◌, length, get_or, drop, refl, sym, ◌∙◌, ap, subst, arith, append_assoc, length-append, length-drop, length-take, take}
use Rattle.std.proofs.lemmas.Bool.{cases_lt}
use Rattle.std.proofs.lemmas.List.{get_or-take, get_or-drop, get_or_past, get_or_at, get_or_append_left, get_or-append_right}
use Rattle.envy_device.specs.Device.{Holds, Mixed, Torn}
use Rattle.envy_journal.specs.Log.{Begins, IsLeftOf}
use Rattle.envy_journal.proofs.Bytes.{parted, gate_torn, rest_at}

-- all of it
pub left_same : (file : List ℕ) → IsLeftOf file file
left_same file = record { no_longer = omega arith; each = λ i lt kept. refl }

-- bytes over zeros of it, or behind its end
module _ (file bytes new d c : List ℕ) (at : ℕ) (within : at ≤ length file) (holds : Holds file at bytes new)
    (blank : (j : ℕ) → j < length bytes → get_or file (at + j) 0 ≡ 0) (left : IsLeftOf file d) (mixed : Mixed at bytes d c) where
  front_long : length (take at file) ≡ at
  front_long = omega (arith, length-take {A = ℕ}, within)

  new_long : length new ≡ at + length bytes + (length file - (at + length bytes))
  new_long = ap length holds ∙ omega (arith, length-append (take at file ++ bytes) (drop (at + length bytes) file), length-append (take at file) bytes, length-drop (at + length bytes) file, front_long)

  no_longer : length c ≤ length new
  no_longer = let torn = mixed.torn in omega (arith, torn.no_longer, left.no_longer, new_long)

  whole : new ≡ take at file ++ (bytes ++ drop (at + length bytes) file)
  whole = holds ∙ append_assoc (take at file) bytes (drop (at + length bytes) file)

  -- a byte that the write didn't touch
  was : (i : ℕ) → get_or c i 0 ≢ 0 → get_or c i 0 ≡ get_or d i 0 → get_or c i 0 ≡ get_or file i 0
  was i some same = elim (cases_lt i (length d)) [
    | inl lt ↦ same ∙ left.each i lt (λ none. some (same ∙ none))
    | inr past ↦ absurd (some (same ∙ get_or_past d i 0 past))
  ]

  early : (i : ℕ) → i < at → get_or c i 0 ≢ 0 → get_or c i 0 ≡ get_or new i 0
  early i lt some =
      let torn = mixed.torn in
      let same : get_or c i 0 ≡ get_or d i 0 = sym (get_or-take at c i 0 lt) ∙ ap (λ (l : List ℕ). get_or l i 0) torn.before ∙ get_or-take at d i 0 lt in
      was i some same
      ∙ sym (get_or-take at file i 0 lt)
      ∙ sym (get_or_append_left (take at file) (bytes ++ drop (at + length bytes) file) 0 i (omega (arith, front_long, lt)))
      ∙ ap (λ (l : List ℕ). get_or l i 0) (sym whole)

  amid : (j : ℕ) → j < length bytes → at + j < length c → get_or c (at + j) 0 ≢ 0 → get_or c (at + j) 0 ≡ get_or new (at + j) 0
  amid j lt long some =
      let there : get_or new (at + j) 0 ≡ get_or bytes j 0 =
      ap (λ (l : List ℕ). get_or l (at + j) 0) whole
      ∙ get_or-append_right (take at file) (bytes ++ drop (at + length bytes) file) at (at + j) 0 front_long (omega arith)
      ∙ ap (λ (k : ℕ). get_or (bytes ++ drop (at + length bytes) file) k 0) (omega arith)
      ∙ get_or_append_left bytes (drop (at + length bytes) file) 0 j lt in
      ⊎_elim (λ now. now ∙ sym there) (λ old. absurd (some (was (at + j) some old ∙ blank j lt))) (mixed.each j lt long)

  late : (j : ℕ) → get_or c (at + length bytes + j) 0 ≢ 0 → get_or c (at + length bytes + j) 0 ≡ get_or new (at + length bytes + j) 0
  late j some =
      let torn = mixed.torn in
      let n = at + length bytes in
      let same : get_or c (n + j) 0 ≡ get_or d (n + j) 0 = sym (get_or-drop n c j 0) ∙ ap (λ (l : List ℕ). get_or l j 0) torn.after ∙ get_or-drop n d j 0 in
      let long : length (take at file ++ bytes) ≡ n = omega (arith, length-append (take at file) bytes, front_long) in
      was (n + j) some same
      ∙ sym (get_or-drop n file j 0)
      ∙ ap (λ (k : ℕ). get_or (drop n file) k 0) (omega arith)
      ∙ sym (get_or-append_right (take at file ++ bytes) (drop n file) n (n + j) 0 long (omega arith))
      ∙ ap (λ (l : List ℕ). get_or l (n + j) 0) (sym holds)

  -- a crash while they are written leaves some of the new file
  pub left_mixed : IsLeftOf new c
  left_mixed = record {
    no_longer = no_longer;
    each = λ i lt some. elim (cases_lt i at) [
      | inl less ↦ early i less some
      | inr more ↦ elim (cases_lt (i - at) (length bytes)) [
        | inl inside ↦
            let same : i ≡ at + (i - at) = omega arith in
            subst (λ (k : ℕ). get_or c k 0 ≡ get_or new k 0) (sym same) (amid (i - at) inside (omega (arith, lt)) (λ none. some (ap (λ (k : ℕ). get_or c k 0) same ∙ none)))
        | inr outside ↦
            let same : i ≡ at + length bytes + (i - (at + length bytes)) = omega arith in
            subst (λ (k : ℕ). get_or c k 0 ≡ get_or new k 0) (sym same) (late (i - (at + length bytes)) (λ none. some (ap (λ (k : ℕ). get_or c k 0) same ∙ none)))
      ]
    ];
  }

-- a file that begins with kept bytes and a closed gate, whose gate is written
module _ (kept tail d c : List ℕ) (gate y : ℕ) (is : length kept ≡ gate) (begins : Begins (kept ++ 0 ∷ []) d) (left : IsLeftOf (kept ++ 0 ∷ tail) d) (mixed : Mixed gate (y ∷ []) d c) where
  long : gate < length d
  long = omega (arith, ap length begins, length-take {A = ℕ}, length-append kept (0 ∷ []), is)

  abbrev pub behind_gate : List ℕ
  behind_gate = drop (gate + 1) d

  is_d : d ≡ kept ++ 0 ∷ behind_gate
  is_d = parted d kept gate 0 is long begins

  -- what stands behind the gate is as it was
  pub is_c : c ≡ kept ++ get_or c gate 0 ∷ behind_gate
  is_c = gate_torn kept behind_gate gate is 0 c (subst (λ (l : List ℕ). Torn gate 1 l c) is_d mixed.torn)

  at_gate : gate + 0 ≡ gate
  at_gate = omega arith

  -- the gate is as it was, or as it was to be
  pub either_gate : (get_or c gate 0 ≡ 0) ⊎ (get_or c gate 0 ≡ y)
  either_gate =
      let torn = mixed.torn in
      let here : get_or c gate 0 ≡ get_or c (gate + 0) 0 = ap (λ (k : ℕ). get_or c k 0) (sym at_gate) in
      let closed : get_or d (gate + 0) 0 ≡ 0 = ap (λ (k : ℕ). get_or d k 0) at_gate ∙ ap (λ (l : List ℕ). get_or l gate 0) is_d ∙ get_or_at kept 0 behind_gate 0 gate is in
      ⊎_elim (λ new. inr (here ∙ new)) (λ old. inl (here ∙ old ∙ closed)) (mixed.each 0 (omega arith) (omega (arith, torn.no_shorter, long)))

  -- and what stands behind it is left of what was written there
  pub left_behind : IsLeftOf tail behind_gate
  left_behind = record {
    no_longer = omega (arith, left.no_longer, length-drop (gate + 1) d, length-append kept (0 ∷ tail), is);
    each = λ i lt found.
        let there : get_or behind_gate i 0 ≡ get_or d (gate + 1 + i) 0 = get_or-drop (gate + 1) d i 0 in
        there
        ∙ left.each (gate + 1 + i) (omega (arith, lt, length-drop (gate + 1) d)) (λ none. found (there ∙ none))
        ∙ sym (get_or-drop (gate + 1) (kept ++ 0 ∷ tail) i 0)
        ∙ ap (λ (l : List ℕ). get_or l i 0) (rest_at kept tail gate is 0);
  }
