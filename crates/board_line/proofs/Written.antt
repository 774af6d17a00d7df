-- What a call wrote behind the first byte of an answer.
use Rattle.std.proofs.Common.{◌≡◌, ℕ, ◌+◌, ◌≤◌, max, Bool, true, false, cond, ltb, List, [], ◌∷◌, ◌++◌, map, length, take, drop, set, IfOk, Ok, Err, Result, sym, refl, ap, ◌∙◌, subst, add-one, arith, ltb-false}
use borrow.Rule.Slice.PartMut.{put_mid}
use Rattle.std.proofs.lemmas.List.{append-nil, drop_all}
use Rattle.std.proofs.lemmas.Bool.Decides.{nat_tests}
use Rattle.fault.specs.declared.Fault.{Fault}
use Rattle.fault.specs.declared.Cause.TheVariants.{NoRoom}
use Rattle.fault.specs.declared.Layer.TheVariants.{Board}
use Rattle.fault.specs.Codes.{fault}
use Rattle.record.specs.Chains.{after, tested}
use Rattle.window.specs.declared.ring.Window.{Window}
use Rattle.proof.specs.Bodies.{proof_bytes}
use Rattle.proof.specs.Writing.{weigh_proof}
use Rattle.history.specs.Entries.{versions}
use Rattle.board.specs.Proofs.{framed_now, proof_in, proof_now, range_now, sealed_row}
use Rattle.board.specs.Shares.{share_out_now}

-- the byte 00 before what was written
pub behind : (out : List ℕ) (n : ℕ) → 1 ≤ length out → take (n + 1) (set out 0 0) ≡ 0 ∷ take n (drop 1 out)
behind [] n some = absurd (none some)
  where
    none : 1 ≤ 0 → ⊥
    none le = omega arith
behind (x ∷ xs) n some = rw add-one

-- what is behind the first byte, once all of it was lent and came back
pub lent_back : (k : ℕ) (out ys : List ℕ) → length out ≡ k + 1 → drop 1 (put_mid 1 k out ys) ≡ ys
lent_back k [] ys long = absurd (none long)
  where
    none : 0 ≡ k + 1 → ⊥
    none is = omega arith
lent_back k (x ∷ xs) ys long = (let all : length xs ≤ k = omega arith in ap (λ zs. ys ++ zs) (drop_all k xs all) ∙ append-nil ys)

-- an answer of at most so many bytes
abbrev pub Few : ℕ → Result ℕ Fault → Type 0
Few room r = IfOk r (λ n. n ≤ room)

after-few : {A : Type 0} (room : ℕ) (first : Result A Fault) (r : Result ℕ Fault) → Few room r → Few room (after first r)
after-few room (Ok x) r few = few
after-few room (Err f) r few = tt

room_few : (room size : ℕ) (b : Bool) (f : Fault) (r : Result ℕ Fault) → b ≡ ltb room size → (size ≤ room → Few room r) → Few room (cond b (Err f) r)
room_few room size true f r is few = tt
room_few room size false f r is few = few (ltb-false room size (sym is))

-- a proof that was written is within the buffer
pub proof-few : (w : Window) (f count low high room : ℕ) (r : Result ℕ Fault) → r ≡ proof_now w f count low high room → Few room r
proof-few w f count low high room r is =
    let size = length (proof_bytes 2 (proof_in w low high)) in
    let P : Result ℕ Fault → Type 0 = Few room in
    subst P (sym is)
    (after-few room (range_now count low high) (after (tested (map (sealed_row w f) (versions (max 1 low) high))) (framed_now f (proof_in w low high) room))
    (after-few room (tested (map (sealed_row w f) (versions (max 1 low) high))) (framed_now f (proof_in w low high) room)
    (room_few room size (ltb room size) (fault NoRoom Board 0) (after (weigh_proof 2 f (proof_in w low high)) (Ok size)) refl
    (λ within. after-few room (weigh_proof 2 f (proof_in w low high)) (Ok size) within))))

-- a share that was written is within the buffer
pub share-few : (count version room : ℕ) (r : Result ℕ Fault) → r ≡ share_out_now count version room → Few room r
share-few count version room (Ok n) is = grind (arith, nat_tests)
share-few count version room (Err f) is = tt
