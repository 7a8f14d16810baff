pub mod RefusalLemmas
pub mod MeetingLemmas
pub mod LackedLemmas
pub mod MembershipLemmas
pub mod CommentLemmas
