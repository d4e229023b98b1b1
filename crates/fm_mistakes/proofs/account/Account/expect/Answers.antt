use Rattle.std.proofs.Common.{◌≡◌, ◌∙◌, ◌<◌, ℕ, Option, Some, true, false, MatchOption, length, position, refl, sym, subst}
use Rattle.std.proofs.lemmas.List.Quantifiers.{position-Some}
use Rattle.fm_types.proofs.Lists.{set_is_updated}
use Rattle.fm_mistakes.specs.declared.mistake.Mistake.{Mistake}
use Rattle.fm_mistakes.specs.declared.account.Account.{Account}
use Rattle.fm_mistakes.specs.Accounts.{Expects, IsExpectedAt, expected, is_open, told_now}
use Rattle.fm_mistakes.proofs.account.Account.expect.Goals as goal

-- an expectation that finds its telling
expects_at : (wanted : Mistake) (old new : Account) (place : ℕ) → position (is_open wanted old.request) old.told.items ≡ Some place
    → IsExpectedAt place old new → Expects wanted old true new
expects_at wanted old new place found at =
    subst (λ (some : Option ℕ). MatchOption some ((true ≡ false) × (new ≡ old)) (λ here. (true ≡ true) × IsExpectedAt here old new)) (sym found) (refl, at)

pub returns : goal.returns
returns c =
    let found : position (is_open c.args.wanted c.args.self.now.request) c.args.self.now.told.items ≡ Some c.in-Some.place =
    sym c.open_place.ensures ∙ c.in-Some.is in
    let within : c.in-Some.place < length c.args.self.now.told.items =
    (position-Some (is_open c.args.wanted c.args.self.now.request) c.args.self.now.told.items c.in-Some.place (told_now c.args.wanted 0) found).0 in
    expects_at c.args.wanted c.args.self.now _ c.in-Some.place found
    (refl, set_is_updated expected c.args.self.now.told.items c.in-Some.place c.index_mut.result.now _ within c.index_mut.ensures.value refl)
