pub mod MentionParts
