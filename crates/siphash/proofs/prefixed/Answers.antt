use Rattle.std.proofs.Common.{◌≡◌, ℕ, ◌+◌, ◌-◌, ◌*◌, ◌^◌, ◌<◌, ◌≤◌, List, [], ◌∷◌, ◌++◌, length, get_or, sym, refl, ap, zero-add, ◌∙◌, arith, length-append}
use Rattle.std.proofs.lemmas.List.{append_assoc, append-nil, get_or_at, nil_from_length}
use Rattle.std.specs.Iterator.Adapters.{rev_source}
use Rattle.std.specs.Slice.Iter.{iter_rest}
use Rattle.siphash.specs.SipHash.{little}
use Rattle.siphash.proofs.Little.{grown, pow-le}
use Rattle.siphash.proofs.prefixed.Goals as goal

-- below 2^56 while there is a byte to come
low : (w h i n : ℕ) → i < n → n ≤ 8 → h < 256 ^ (8 - n) → ((k : ℕ) → h < 256 ^ k → w < 256 ^ (i + k)) → w < 256 ^ 7
low w h i n l s hh f =
    let b = f (8 - n) hh in
    let m = pow-le (i + (8 - n)) 7 (omega arith) in
    omega arith

-- where the next byte from the back stands
there : (b rest left back : List ℕ) (x : ℕ) → b ≡ rest ++ back → rest ≡ left ++ (x ∷ []) → b ≡ left ++ (x ∷ back)
there b rest left back x eb er = eb ∙ ap (λ (r : List ℕ). r ++ back) er ∙ append_assoc left (x ∷ []) back

room : (b rest left back : List ℕ) (x : ℕ) → b ≡ rest ++ back → rest ≡ left ++ (x ∷ []) → length back < length b
room b rest left back x eb er =
    let l = length-append left (x ∷ back) in
    omega (arith, ap length (there b rest left back x eb er))

byte : (b rest left back : List ℕ) (x : ℕ) → b ≡ rest ++ back → rest ≡ left ++ (x ∷ []) → ((i : ℕ) → get_or b i 0 < 256) → x < 256
byte b rest left back x eb er all =
    let e : get_or b (length left) 0 ≡ x = ap (λ (l : List ℕ). get_or l (length left) 0) (there b rest left back x eb er) ∙ get_or_at left x back 0 (length left) refl in
    omega (arith, all (length left))

front : (back t : List ℕ) (w x y : ℕ) → y ≡ x → w ≡ little (back ++ t) → w * 256 + y ≡ little ((x ∷ back) ++ t)
unfolding little
front back t w x y e h = omega arith

pub overflow_mul-w : goal.overflow_mul-w
overflow_mul-w c =
    let v = c.loop-byte.invariant in
    let lt = room c.args.b.now (iter_rest (rev_source c.loop-byte.byte-iterator)) (iter_rest (rev_source c.next.new.self)) v.0 c.in-Some.byte.now v.1 c.in-Some.ensures.steps in
    let b = low c.loop-byte.w c.args.high (length v.0) (length c.args.b.now) lt c.requires.size c.requires.room v.3 in
    omega arith

pub overflow_add-w : goal.overflow_add-w
overflow_add-w c =
    let v = c.loop-byte.invariant in
    let before = iter_rest (rev_source c.loop-byte.byte-iterator) in
    let left = iter_rest (rev_source c.next.new.self) in
    let lt = room c.args.b.now before left v.0 c.in-Some.byte.now v.1 c.in-Some.ensures.steps in
    let b = low c.loop-byte.w c.args.high (length v.0) (length c.args.b.now) lt c.requires.size c.requires.room v.3 in
    let x = byte c.args.b.now before left v.0 c.in-Some.byte.now v.1 c.in-Some.ensures.steps (λ i. (omega (arith, c.type_inv.b i))) in
    omega (arith, c.from.ensures)

pub loop-byte-init : goal.loop-byte-init
loop-byte-init c = (
  [],
  sym (append-nil (iter_rest (rev_source c.into_iter-byte-iterator.result)) ∙ ap (λ it. iter_rest (rev_source it)) c.into_iter-byte-iterator.ensures.into_iter_gives
      ∙ ap (λ it. iter_rest it) c.rev-byte-items.ensures.source ∙ c.iter.ensures.rest),
  (λ t e. e),
  (λ k h. rw zero-add h),
)

pub loop-byte-preserved : goal.loop-byte-preserved
loop-byte-preserved c =
    let v = c.loop-byte.invariant in
    let before = iter_rest (rev_source c.loop-byte.byte-iterator) in
    let left = iter_rest (rev_source c.next.new.self) in
    let b = byte c.args.b.now before left v.0 c.in-Some.byte.now v.1 c.in-Some.ensures.steps (λ i. (omega (arith, c.type_inv.b i))) in
    let x : c.from.result < 256 = omega (arith, c.from.ensures) in (
      c.in-Some.byte.now ∷ v.0,
      there c.args.b.now before left v.0 c.in-Some.byte.now v.1 c.in-Some.ensures.steps,
      (λ t e. front v.0 t c.loop-byte.w c.in-Some.byte.now c.from.result c.from.ensures (v.2 t e)),
      (λ k h. let e : length (c.in-Some.byte.now ∷ v.0) + k ≡ length v.0 + k + 1 = omega arith in
          rw e (grown c.loop-byte.w c.from.result (length v.0 + k) (v.3 k h) x)),
    )

pub returns : goal.returns
returns c =
    let v = c.loop-byte.invariant in
    let z = nil_from_length (iter_rest (rev_source c.loop-byte.byte-iterator)) c.in-None.ensures.steps.0 in
    let all : v.0 ≡ c.args.b.now = sym (v.1 ∙ ap (λ (r : List ℕ). r ++ v.0) z) in
    record {
      value = λ t e. v.2 t e ∙ ap (λ (b : List ℕ). little (b ++ t)) all;
      bound = λ k h. rw (← all) (v.3 k h);
    }
