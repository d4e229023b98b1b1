use Rattle.fm_core.proofs.Words.{the_view, [], ap, not, refl, subst, sym, ◌∷◌, first_of, Status, IsSound}
use Rattle.fm_world.proofs.Words.{ResumesPost}
use Rattle.fm_world.proofs.Resumes.{resume_post_does}
use Rattle.fm_core.proofs.Resumed.{by_that, placed_so, post_resume_tied, stands_post_held}
use Rattle.fm_operations.specs.declared.hold.Hold.TheVariants as hold
use Rattle.fm_core.proofs.state.State.resume_post.Goals as goal

pub resume_post-requires : goal.resume_post-requires
resume_post-requires c = stands_post_held c.self.inside.flow c.args.operation c.in-Some.instance c.in-Some-held_record._held.now
    c.self.invariant.sound.under_way.flow c.in-Some-held_record.ensures.some

pub returns-clause-event : goal.returns-clause-event
unfolding ResumesPost
returns-clause-event c =
    let place = placed_so c.args.worker c.in-Some.instance c.instance_of.result c.self.view_is c.instance_of.ensures c.in-Some.is in
    let held = by_that (the_view c.self.inside) hold.Post c.args.operation c.in-Some.instance c.in-Some-held_record._held.now
    c.in-Some-held_record.ensures.some in
    rw (sym c.self.view_is, place, c.resume_post.ensures) (ap (λ b. first_of ((not b, Status.NotPended) ∷ [])) held, refl)

pub invariant_of-self : goal.invariant_of-self
invariant_of-self c = record {
  sound = (resume_post_does _ _ _ _ _ (returns-clause-event c)).sound (subst IsSound c.self.view_is c.self.invariant.sound);
  tied = post_resume_tied c.args.operation c.in-Some.instance c.resume_post.new.self c.self.invariant
      (by_that (the_view c.self.inside) hold.Post c.args.operation c.in-Some.instance c.in-Some-held_record._held.now
      c.in-Some-held_record.ensures.some) c.resume_post.ensures;
}
