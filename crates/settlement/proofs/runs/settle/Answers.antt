use Rattle.std.proofs.Common.{◌≡◌, ℕ, ◌+◌, ◌<◌, ◌≤◌, List, [], ◌∷◌, ◌++◌, length, get_or, take, drop, pos, vec_items, sym, ap, ◌∙◌, subst, ⊎_elim, append_assoc, append-nil, arith}
use Rattle.std.proofs.lemmas.List.{at_drop_more, at_drop_all, take_all}
use Rattle.std.proofs.lemmas.Bool.{cases_lt}
use Rattle.hour.specs.Hour.{Hour, entries, fresh}
use Rattle.hour.specs.declared.book.Book.{Book}
use Rattle.hour.specs.declared.calls.Call.TheVariants.{Place}
use Rattle.saved.proofs.RoundTrip.{reads_back}
use Rattle.settlement.specs.declared.deeds.Deed.{Deed}
use Rattle.settlement.specs.declared.deeds.Deed.TheVariants as deed
use Rattle.settlement.specs.declared.deeds.Answer.{Answer}
use Rattle.settlement.specs.Runs.{after_deed, hour_of}
use Rattle.settlement.specs.Prices.{AnswersAll}
use Rattle.settlement.proofs.Hours.{hour_more}
use Rattle.settlement.proofs.Promises.{Back, promise}
use Rattle.settlement.proofs.runs.settle.Goals as goal

-- the text of a book's hour is read as it
back_of : (book : Book) (h : Hour) → entries book ≡ h → Back h
back_of book h e = subst Back e (reads_back book)

pub loop-deed-init : goal.loop-deed-init
loop-deed-init g c =
    let m = g.W.Weighting.meaning c.args.weighting.now in
    let posted = g.P.Posting.grid c.args.posting.now in
    let deeds = c.args.deeds.now in
    let e : entries c.fresh-book.result ≡ fresh = c.fresh-book.ensures in (
      e,
      λ rest all.
          subst (λ (xs : List Answer). AnswersAll m posted fresh deeds (xs ++ rest)) (sym c.new-answers.ensures.items)
          (subst (λ (h : Hour). AnswersAll m posted h deeds rest) e all),
      λ k low. let none : 0 ≡ k = omega arith in subst (λ (n : ℕ). Back (hour_of (take n deeds))) none (back_of c.fresh-book.result fresh e),
    )

pub loop-deed-preserved : goal.loop-deed-preserved
loop-deed-preserved g c =
    let m = g.W.Weighting.meaning c.args.weighting.now in
    let posted = g.P.Posting.grid c.args.posting.now in
    let deeds = c.args.deeds.now in
    let i = c.loop-deed.deed-index in
    let none : Deed = deed.Call (Place (pos 0) (pos 0) (pos 0)) in
    let d = get_or deeds i none in
    let rest = drop (i + 1) deeds in
    let h = entries c.loop-deed.book in
    let new = c.work.new.book in
    let a = c.in_ok-work.field-0 in
    let so_far = vec_items c.loop-deed.answers in
    let inside = c.loop-deed-test.true in
    let steps : entries new ≡ after_deed h d = c.in_ok-work.ensures.hour in
    let left : drop i deeds ≡ d ∷ rest = at_drop_more (λ (xs : List Deed). xs) deeds i none inside in
    let now_is : entries new ≡ hour_of (take (i + 1) deeds) = steps ∙ ap (λ (x : Hour). after_deed x d) c.loop-deed.invariant.0 ∙ sym (hour_more deeds i none inside) in (
      now_is,
      λ others all.
          subst (λ (xs : List Answer). AnswersAll m posted fresh deeds xs) (sym (ap (λ (xs : List Answer). xs ++ others) c.in_ok-push.ensures.items ∙ append_assoc so_far (a ∷ []) others))
          (c.loop-deed.invariant.1 (a ∷ others)
          (subst (λ (xs : List Deed). AnswersAll m posted h xs (a ∷ others)) (sym left)
          (c.in_ok-work.ensures.answer, subst (λ (x : Hour). AnswersAll m posted x rest others) steps all))),
      λ k low.
          ⊎_elim
          (λ (less : k < i + 1). c.loop-deed.invariant.2 k (omega arith))
          (λ (past : i + 1 ≤ k). let same : i + 1 ≡ k = omega arith in subst (λ (n : ℕ). Back (hour_of (take n deeds))) same (back_of new (hour_of (take (i + 1) deeds)) now_is))
          (cases_lt k (i + 1)),
    )

pub returns : goal.returns
returns g c =
    let m = g.W.Weighting.meaning c.args.weighting.now in
    let posted = g.P.Posting.grid c.args.posting.now in
    let deeds = c.args.deeds.now in
    let i = c.loop-deed.deed-index in
    let h = entries c.loop-deed.book in
    let done : length deeds ≤ i = omega arith in
    record {
      book = c.loop-deed.invariant.0 ∙ ap hour_of (take_all i deeds done);
      answers =
          subst (λ (xs : List Answer). AnswersAll m posted fresh deeds xs) (append-nil (vec_items c.loop-deed.answers))
          (c.loop-deed.invariant.1 [] (subst (λ (xs : List Deed). AnswersAll m posted h xs []) (sym (at_drop_all (λ (xs : List Deed). xs) deeds i done)) tt));
      promise = promise deeds (λ k low. c.loop-deed.invariant.2 k (omega arith));
    }
