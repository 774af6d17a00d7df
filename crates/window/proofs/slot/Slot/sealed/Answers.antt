use Rattle.std.proofs.Common.{◌≡◌, List, [], ◌∷◌, ◌++◌, take, sym, ap, ◌∙◌, subst}
use Rattle.entry.specs.Bodies.{EntryBody, PairBody, SealedBody, Pushed, entry_body, pair_body, sealed_body}
use Rattle.entry.specs.declared.parts.SealedEntry.{SealedEntry}
use Rattle.window.specs.Shares.{pairs_below}
use Rattle.window.specs.Windows.{tag_of}
use Rattle.window.proofs.ShareLaws.{pairs_no, pairs_start, pairs_yes, six-more}
use Rattle.window.proofs.slot.Slot.sealed.Goals as goal
use Rattle.window.proofs.slot.Slot.sealed.Goals.{in-Some, in_default}

pub loop-s-init : goal.loop-s-init
loop-s-init c = (
  ap (λ (b : SealedBody). b.pairs) c.new-sealed.ensures ∙ sym (ap (take 6) (pairs_start (tag_of c.args.self.now))),
  ap (λ (b : SealedBody). b.entry) c.new-sealed.ensures,
)

pub loop-s-preserved : goal.loop-s-preserved
loop-s-preserved c =
    let tag = tag_of c.args.self.now in
    let n = c.loop-s.s in
    let pairs : SealedEntry → List PairBody = λ e. (sealed_body e).pairs in
    let body : SealedEntry → EntryBody = λ e. entry_body e.entry in
    elim c.match-tag.branch [
      | in-Some w ↦
          let made = w.new.ensures in
          let pair : pair_body w.new.result ≡ record { signer = n; tag = w.in-Some.tag } = (λ i. record { signer = made.0 i; tag = made.1 i }) in
          let pushed = subst (λ bs. Pushed pair_body 6 bs (pairs w.push.new.self) w.new.result w.push.result) c.loop-s.invariant.0 w.push.ensures.0 in
          let more = six-more pair_body (pairs_below tag n) (pairs w.push.new.self) w.new.result w.push.result pushed in (
            ap pairs w.sealed-is ∙ more ∙ ap (take 6) (ap (λ p. pairs_below tag n ++ p ∷ []) pair ∙ sym (pairs_yes tag n w.in-Some.tag w.in-Some.is)),
            ap body w.sealed-is ∙ ap entry_body w.push.ensures.1 ∙ c.loop-s.invariant.1,
          )
      | in_default w ↦ (
        ap pairs w.sealed-is ∙ c.loop-s.invariant.0 ∙ ap (take 6) (sym (pairs_no tag n w.in_default.is)),
        ap body w.sealed-is ∙ c.loop-s.invariant.1,
      )
    ]
