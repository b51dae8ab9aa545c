pub mod Meetings
pub mod Moments
pub mod Stamps
pub mod Within
