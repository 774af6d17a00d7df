use Rattle.std.proofs.Common.{◌≡◌, ℕ, List, [], get_or, sym, ap, ◌∙◌, subst}
use Rattle.digest.specs.declared.Fnv.{Fnv}
use Rattle.digest.specs.Fnv.{fnv_words}
use Rattle.digest.specs.Meaning.{written}
use Rattle.seal.specs.declared.keyed.KeyedSeal.{KeyedSeal}
use Rattle.seal.specs.declared.sip.Sip.{Sip}
use Rattle.seal.specs.Sip.{sip_tag}
use Rattle.store.specs.declared.table.Table.{Table}
use Rattle.store.specs.Rows.{rows}
use Rattle.board.specs.declared.state.Board.{Board}
use Rattle.board.specs.Standing.{Represents}
use Rattle.boardrun.proofs.start.start.Goals as goal

-- a new board of the program, by its keys and its place
abbrev New : List (List ℕ) → ℕ → ℕ → Board Table Fnv (KeyedSeal Sip) → Type 0
New keys f own b =
    Represents rows (λ m. written (fnv_words m)) (λ seal i m. sip_tag (get_or seal.keys i []) m) (λ i m. sip_tag (get_or keys i []) m) f own b []

new_as : (keys keys' : List (List ℕ)) (f f' own own' : ℕ) (b b' : Board Table Fnv (KeyedSeal Sip)) → keys ≡ keys' → f ≡ f' → own ≡ own' → b' ≡ b
    → New keys f own b → New keys' f' own' b'
new_as keys keys' f f' own own' b b' k e o s new =
    let K : List (List ℕ) → Type 0 = λ x. New x f own b in
    let F : ℕ → Type 0 = λ x. New keys' x own b in
    let O : ℕ → Type 0 = λ x. New keys' f' x b in
    let B : Board Table Fnv (KeyedSeal Sip) → Type 0 = λ x. New keys' f' own' x in
    subst B (sym s) (subst O o (subst F e (subst K k new)))

pub returns : goal.returns
returns c = record {
  keys = c.sample_keys.result;
  alike = c.sample_keys.ensures;
  board =
      new_as c.new.result.keys c.sample_keys.result c.place.result.size.f 1 c.place.result.number 0 c.new-board.result c.new-3.result.answerer.board c.new.ensures
      c.place.ensures.0 c.place.ensures.1 (ap (λ a. a.board) c.new-3.ensures.0 ∙ c.new-2.ensures.0) c.new-board.ensures;
  line = c.new-3.ensures.1;
}
