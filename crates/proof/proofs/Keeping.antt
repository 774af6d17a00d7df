-- The promise of the reader of proofs.
use Rattle.std.proofs.Common.{◌≡◌, ℕ, suc, ◌+◌, Bool, true, false, ◌⊎◌, List, [], ◌∷◌, ◌++◌, map, length, Some, None, Ok, Err, Option, Result, sym, refl, ap, ◌∙◌, subst, inl, inr}
use Rattle.std.specs.List.{AllByRecursion}
use Rattle.fault.specs.declared.Fault.{Fault}
use Rattle.fault.specs.declared.Layer.TheVariants.{Proof}
use Rattle.fault.specs.declared.Cause.{Cause}
use Rattle.fault.specs.declared.Cause.TheVariants.{Malformed, NotRising, NotMember}
use Rattle.fault.specs.Codes.{fault}
use Rattle.octets.specs.Numbers.{Bytes}
use Rattle.record.specs.Formats.{written}
use Rattle.record.specs.Rules.{Spot, above, rising}
use Rattle.entry.specs.Bodies.{SealedBody, sealed_bytes}
use Rattle.ruled.specs.Ruled.{rows}
use Rattle.ruled.specs.Standing.{Among, Passes, Alike, Broken, Stands, Kept, Answered}
use Rattle.ruled.proofs.Tables.{among-left, among_right, among_cases, none_fails}
use Rattle.ruled.proofs.Answering.{answered, answered-only}
use Rattle.proof.specs.Bodies.{ProofBody, ProofIn, proof_fields, proof_bytes}
use Rattle.proof.specs.Rules.{proof_ruled, proof_of, item_spots, pair_spots, rising_rows, member_row, member_rows, entries_at}
use Rattle.proof.specs.Promises.{MalformedAt, ProofStands, ProofKept, ProofAnswered, ProofReads}
use Rattle.proof.proofs.Records.{table}
use Rattle.proof.proofs.Frames.{proof_coding, proof_live, proof_tidy, proof-bytes, rows-proof, sealed_table, entries_table}

-- the rows of a list of records are those of rule 2 and, where boards are asked for, of rule 5
module _ (row : Bool × Fault) where
  plain_table : (last : Option ℕ) (ss : List Spot) → Among row (table None last ss) → Among row (rising Proof last ss)
  plain_table last [] m = m
  plain_table last (s ∷ ss) (inl e) = inl e
  plain_table last (s ∷ ss) (inr m) = inr (plain_table (Some s.number) ss m)

  table_plain : (last : Option ℕ) (ss : List Spot) → Among row (rising Proof last ss) → Among row (table None last ss)
  table_plain last [] m = m
  table_plain last (s ∷ ss) (inl e) = inl e
  table_plain last (s ∷ ss) (inr m) = inr (table_plain (Some s.number) ss m)

  asked_table : (f : ℕ) (last : Option ℕ) (ss : List Spot) → Among row (table (Some f) last ss) → Among row (rising Proof last ss) ⊎ Among row (map (member_row f) ss)
  asked_table f last [] m = inl m
  asked_table f last (s ∷ ss) (inl e) = inl (inl e)
  asked_table f last (s ∷ ss) (inr (inl e)) = inr (inl e)
  asked_table f last (s ∷ ss) (inr (inr m)) = elim (asked_table f (Some s.number) ss m) [ inl a ↦ inl (inr a) | inr a ↦ inr (inr a) ]

  table_rises : (f : ℕ) (last : Option ℕ) (ss : List Spot) → Among row (rising Proof last ss) → Among row (table (Some f) last ss)
  table_rises f last [] m = m
  table_rises f last (s ∷ ss) (inl e) = inl e
  table_rises f last (s ∷ ss) (inr m) = inr (inr (table_rises f (Some s.number) ss m))

  table_members : (f : ℕ) (last : Option ℕ) (ss : List Spot) → Among row (map (member_row f) ss) → Among row (table (Some f) last ss)
  table_members f last [] m = m
  table_members f last (s ∷ ss) (inl e) = inr (inl e)
  table_members f last (s ∷ ss) (inr m) = inr (inr (table_members f (Some s.number) ss m))

  module _ (w f : ℕ) where
    -- and so for the entries of a proof
    pub of_table : (at : ℕ) (ss : List SealedBody) → Among row (entries_table w f at ss) → Among row (rising_rows w at ss) ⊎ Among row (member_rows w f at ss)
    of_table at [] m = inl m
    of_table at (s ∷ ss) m =
        let next = at + length (sealed_bytes w s) in
        let is = rising Proof None (item_spots w at s) in
        let ps = rising Proof None (pair_spots w at s) in
        let bs = map (member_row f) (pair_spots w at s) in
        elim (among_cases row (sealed_table w f at s) (entries_table w f next ss) m) [
          | inl a ↦
              elim (among_cases row (table None None (item_spots w at s)) (table (Some f) None (pair_spots w at s)) a) [
                | inl b ↦ inl (among-left row is (ps ++ rising_rows w next ss) (plain_table None (item_spots w at s) b))
                | inr b ↦
                    elim (asked_table f None (pair_spots w at s) b) [
                      | inl d ↦ inl (among_right row is (ps ++ rising_rows w next ss) (among-left row ps (rising_rows w next ss) d))
                      | inr d ↦ inr (among-left row bs (member_rows w f next ss) d)
                    ]
              ]
          | inr a ↦
              elim (of_table next ss a) [
                | inl b ↦ inl (among_right row is (ps ++ rising_rows w next ss) (among_right row ps (rising_rows w next ss) b))
                | inr b ↦ inr (among_right row bs (member_rows w f next ss) b)
              ]
        ]

    pub to_table : (at : ℕ) (ss : List SealedBody) → Among row (rising_rows w at ss) ⊎ Among row (member_rows w f at ss) → Among row (entries_table w f at ss)
    to_table at [] (inl m) = m
    to_table at [] (inr m) = m
    to_table at (s ∷ ss) (inl m) =
        let next = at + length (sealed_bytes w s) in
        let it = table None None (item_spots w at s) in
        let pt = table (Some f) None (pair_spots w at s) in
        elim (among_cases row (rising Proof None (item_spots w at s)) (rising Proof None (pair_spots w at s) ++ rising_rows w next ss) m) [
          | inl a ↦ among-left row (it ++ pt) (entries_table w f next ss) (among-left row it pt (table_plain None (item_spots w at s) a))
          | inr a ↦
              elim (among_cases row (rising Proof None (pair_spots w at s)) (rising_rows w next ss) a) [
                | inl b ↦ among-left row (it ++ pt) (entries_table w f next ss) (among_right row it pt (table_rises f None (pair_spots w at s) b))
                | inr b ↦ among_right row (it ++ pt) (entries_table w f next ss) (to_table next ss (inl b))
              ]
        ]
    to_table at (s ∷ ss) (inr m) =
        let next = at + length (sealed_bytes w s) in
        let it = table None None (item_spots w at s) in
        let pt = table (Some f) None (pair_spots w at s) in
        elim (among_cases row (map (member_row f) (pair_spots w at s)) (member_rows w f next ss) m) [
          | inl b ↦ among-left row (it ++ pt) (entries_table w f next ss) (among_right row it pt (table_members f None (pair_spots w at s) b))
          | inr b ↦ among_right row (it ++ pt) (entries_table w f next ss) (to_table next ss (inr b))
        ]

-- rows that do not fail pass
none-every : (rs : List (Bool × Fault)) → ((e : Fault) → Among (false, e) rs → ⊥) → AllByRecursion Passes rs
none-every [] h = tt
none-every (r ∷ rs) h = (by_test r.0 refl, none-every rs (λ e m. h e (inr m)))
  where
    by_test : (b : Bool) → r.0 ≡ b → r.0 ≡ true
    by_test true e = e
    by_test false e = absurd (h r.1 (inl (λ i. (e i, r.1))))

-- each row of a table has the table's cause
abbrev Made : Cause → Fault → Type 0
Made c e = e ≡ fault c Proof e.place

made_by : (c : Cause) (b : Bool) (e : Fault) (row : Bool × Fault) → Made c row.1 → row ≡ (b, e) → Made c e
made_by c b e row m same = subst (λ r. Made c r.1) same m

rising-made : (last : Option ℕ) (ss : List Spot) (b : Bool) (e : Fault) → Among (b, e) (rising Proof last ss) → Made NotRising e
rising-made last [] b e m = absurd m
rising-made last (s ∷ ss) b e (inl q) = made_by NotRising b e (above last s.number, fault NotRising Proof s.place) refl q
rising-made last (s ∷ ss) b e (inr m) = rising-made (Some s.number) ss b e m

member-made : (f : ℕ) (ss : List Spot) (b : Bool) (e : Fault) → Among (b, e) (map (member_row f) ss) → Made NotMember e
member-made f [] b e m = absurd m
member-made f (s ∷ ss) b e (inl q) = made_by NotMember b e (member_row f s) refl q
member-made f (s ∷ ss) b e (inr m) = member-made f ss b e m

rises-made : (w at : ℕ) (ss : List SealedBody) (b : Bool) (e : Fault) → Among (b, e) (rising_rows w at ss) → Made NotRising e
rises-made w at [] b e m = absurd m
rises-made w at (s ∷ ss) b e m =
    let next = at + length (sealed_bytes w s) in
    elim (among_cases (b, e) (rising Proof None (item_spots w at s)) (rising Proof None (pair_spots w at s) ++ rising_rows w next ss) m) [
      | inl x ↦ rising-made None (item_spots w at s) b e x
      | inr x ↦
          elim (among_cases (b, e) (rising Proof None (pair_spots w at s)) (rising_rows w next ss) x) [
            | inl y ↦ rising-made None (pair_spots w at s) b e y
            | inr y ↦ rises-made w next ss b e y
          ]
    ]

members-made : (w f at : ℕ) (ss : List SealedBody) (b : Bool) (e : Fault) → Among (b, e) (member_rows w f at ss) → Made NotMember e
members-made w f at [] b e m = absurd m
members-made w f at (s ∷ ss) b e m =
    let next = at + length (sealed_bytes w s) in
    elim (among_cases (b, e) (map (member_row f) (pair_spots w at s)) (member_rows w f next ss) m) [
      | inl x ↦ member-made f (pair_spots w at s) b e x
      | inr x ↦ members-made w f next ss b e x
    ]

module _ (w f : ℕ) (bs : List ℕ) where
  -- the faults that stand, by either account
  to_broken : (e : Fault) (b : ProofBody) → ProofIn w f b → Alike e.place bs (proof_bytes w b) → Among (false, e) (rising_rows w (entries_at w) b.entries) ⊎ Among (false, e) (member_rows w f (entries_at w) b.entries) → Broken (proof_ruled w f) bs e
  to_broken e b h a m =
      record {
        fields = proof_fields w b;
        holds = b;
        frame = (proof_coding w f).to b h;
        alike = subst (Alike e.place bs) (sym (proof-bytes w b)) a;
        row = subst (Among (false, e)) (sym (rows-proof w f b h)) (to_table (false, e) w f (entries_at w) b.entries m);
      }

  pub standing : (e : Fault) → ProofStands w f bs e → Stands Proof (proof_ruled w f) bs e
  standing e (inl s) = inl (subst (λ x. (x.cause ≡ Malformed) × (x.layer ≡ Proof) × MalformedAt w f bs x.place) (sym s.1) (refl, refl, s.2))
  standing e (inr (inl s)) =
      let o = s.2 in
      inr (subst (λ x. Broken (proof_ruled w f) bs x) (sym s.1) (to_broken (fault NotRising Proof s.0) o.other o.in_range o.alike (inl o.falls)))
  standing e (inr (inr s)) =
      let o = s.2 in
      inr (subst (λ x. Broken (proof_ruled w f) bs x) (sym s.1) (to_broken (fault NotMember Proof s.0) o.other o.in_range o.alike (inr o.strange)))

  pub stood : (e : Fault) → Stands Proof (proof_ruled w f) bs e → ProofStands w f bs e
  stood e (inl s) = inl (e.place, (λ i. record { cause = s.0 i; layer = s.1 i; place = e.place }), s.2)
  stood e (inr o) =
      let b = o.holds in
      let q = (proof_coding w f).of o.fields b o.frame in
      let a : Alike e.place bs (proof_bytes w b) = subst (Alike e.place bs) (ap written q.0 ∙ proof-bytes w b) o.alike in
      let m = subst (Among (false, e)) (ap (λ fs. rows (proof_ruled w f) fs 0) q.0 ∙ rows-proof w f b q.1) o.row in
      elim (of_table (false, e) w f (entries_at w) b.entries m) [
        | inl x ↦
            let y = rises-made w (entries_at w) b.entries false e x in
            inr (inl (e.place, y, record { other = b; in_range = q.1; alike = a; falls = subst (λ d. Among (false, d) (rising_rows w (entries_at w) b.entries)) y x }))
        | inr x ↦
            let y = members-made w f (entries_at w) b.entries false e x in
            inr (inr (e.place, y, record { other = b; in_range = q.1; alike = a; strange = subst (λ d. Among (false, d) (member_rows w f (entries_at w) b.entries)) y x }))
      ]

  pub to_kept : (b : ProofBody) → ProofKept w f b × (bs ≡ proof_bytes w b) → Kept (proof_ruled w f) bs b
  to_kept b h =
      let k = h.0 in
      record {
        fields = proof_fields w b;
        frame = (proof_coding w f).to b k.in_range;
        bytes = h.1 ∙ sym (proof-bytes w b);
        keeps = subst (AllByRecursion Passes) (sym (rows-proof w f b k.in_range)) (none-every (entries_table w f (entries_at w) b.entries) (λ e m.
            elim (of_table (false, e) w f (entries_at w) b.entries m) [ inl x ↦ none_fails (rising_rows w (entries_at w) b.entries) e k.rises x | inr x ↦ none_fails (member_rows w f (entries_at w) b.entries) e k.members x ]));
      }

  pub of-kept : (b : ProofBody) → Kept (proof_ruled w f) bs b → ProofKept w f b × (bs ≡ proof_bytes w b)
  of-kept b k =
      let q = (proof_coding w f).of k.fields b k.frame in
      let all = subst (AllByRecursion Passes) (ap (λ fs. rows (proof_ruled w f) fs 0) q.0 ∙ rows-proof w f b q.1) k.keeps in
      let at = entries_at w in
      let ss = b.entries in (
        record {
          in_range = q.1;
          rises = none-every (rising_rows w at ss) (λ e m. none_fails (entries_table w f at ss) e all (to_table (false, e) w f at ss (inl m)));
          members = none-every (member_rows w f at ss) (λ e m. none_fails (entries_table w f at ss) e all (to_table (false, e) w f at ss (inr m)));
        },
        k.bytes ∙ ap written q.0 ∙ proof-bytes w b,
      )

  to_answered : (r : Result ProofBody Fault) → ProofAnswered w f bs r → Answered Proof (proof_ruled w f) bs r
  to_answered (Ok b) h = to_kept b h
  to_answered (Err e) h = (standing e h.0, λ d s. h.1 d (stood d s))

  of-answered : (r : Result ProofBody Fault) → Answered Proof (proof_ruled w f) bs r → ProofAnswered w f bs r
  of-answered (Ok b) k = of-kept b k
  of-answered (Err e) h = (stood e h.0, λ d s. h.1 d (standing d s))

-- the answer of a scan is the promised one
pub reads : (w f : ℕ) (bs : List ℕ) → Bytes bs → ProofReads (suc w) f bs (proof_of (suc w) f bs)
reads w f bs all =
    let c = proof_ruled (suc w) f in
    record {
      answered = of-answered (suc w) f bs (proof_of (suc w) f bs) (answered Proof c bs (proof_live w f) (proof_tidy (suc w) f) all);
      only = λ s h. answered-only Proof c bs (proof_live w f) (proof_tidy (suc w) f) all s (to_answered (suc w) f bs s h);
    }
